-- What went out on a connection, step by step.
use Rattle.std.specs.Prelude.{ℕ, List, [], ◌++◌, ◌==◌, if◌then◌else◌}
use Rattle.sm_site.specs.declared.step.Step.{Step}
use Rattle.sm_site.specs.declared.step.Step.TheVariants.{Sized, Read, Wrote, Synced, Took, Sent, Shut, Crashed}

abbrev pub sent_after : ℕ → List ℕ → Step → List ℕ
sent_after conn bytes (Sized file failed) = bytes
sent_after conn bytes (Read file at n failed) = bytes
sent_after conn bytes (Wrote file at own failed reached) = bytes
sent_after conn bytes (Synced file failed) = bytes
sent_after conn bytes (Took event) = bytes
sent_after conn bytes (Sent n part failed) = bytes ++ (if n == conn then part.items else [])
sent_after conn bytes (Shut n) = bytes
sent_after conn bytes (Crashed choice) = []
