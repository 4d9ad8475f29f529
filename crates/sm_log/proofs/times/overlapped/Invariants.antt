use Rattle.std.proofs.Common.{◌≡◌, drop}
use Rattle.sm_log.specs.Times.{overlapped_end}
use Rattle.sm_log.proofs.times.overlapped.Given as goal

abbrev pub invariant-loop-time : goal.invariant-loop-time
invariant-loop-time l = overlapped_end l.span (drop l.time-index l.times) ≡ overlapped_end l.span l.times
