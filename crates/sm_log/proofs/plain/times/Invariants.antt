use Rattle.std.proofs.Common.{◌≡◌, drop}
use Rattle.sm_log.specs.Adds.{times_from}
use Rattle.sm_log.specs.Logs.{adds_from, times_in}
use Rattle.sm_log.proofs.plain.times.Given as goal

abbrev pub invariant-loop-entry : goal.invariant-loop-entry
invariant-loop-entry l = times_from l.stream l.times.items (adds_from l.entry-index (drop l.entry-index l.log)) ≡ times_in l.log l.stream
