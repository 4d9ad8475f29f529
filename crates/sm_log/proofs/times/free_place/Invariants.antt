use Rattle.std.proofs.Common.{◌≡◌, ◌++◌, ℕ, take, drop}
use Rattle.sm_log.specs.Times.{with_entry}
use Rattle.sm_log.proofs.times.free_place.Given as goal

abbrev pub invariant-loop-i : goal.invariant-loop-i
invariant-loop-i l = (d : ℕ) → with_entry l.start d l.times ≡ take l.i l.times ++ with_entry l.start d (drop l.i l.times)
