use Rattle.std.proofs.Common.{◌≡◌, ◌++◌, drop}
use Rattle.sm_standby.specs.Candidates.{candidates, bounds_behind}
use Rattle.sm_standby.proofs.candidates.candidates.Given as goal

abbrev pub invariant-loop-time : goal.invariant-loop-time
invariant-loop-time l = l.all.items ++ bounds_behind l.end (drop l.time-index l.times) ≡ candidates l.times
