use Rattle.std.proofs.Common.{◌≡◌, drop}
use Rattle.sm_log.specs.Times.{entry_at}
use Rattle.sm_log.proofs.times.time_at.Given as goal

abbrev pub invariant-loop-time : goal.invariant-loop-time
invariant-loop-time l = entry_at l.start (drop l.time-index l.times) ≡ entry_at l.start l.times
