use Rattle.sm_client.proofs.Knows.{Taken}
use Rattle.sm_client.proofs.standing.known_of.Given as goal

abbrev pub invariant-loop-left : goal.invariant-loop-left
invariant-loop-left l = Taken l.expected l.times l.left l.known

abbrev pub decreases-loop-left : goal.decreases-loop-left
decreases-loop-left l = l.left
