use Rattle.std.proofs.Common.{◌≤◌, length}
use Rattle.sm_site.proofs.memory_crash.begun_at.Given as goal

abbrev pub invariant-loop-at : goal.invariant-loop-at
invariant-loop-at l = l.at ≤ length l.past

abbrev pub decreases-loop-at : goal.decreases-loop-at
decreases-loop-at l = l.at
