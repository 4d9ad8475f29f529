use Rattle.sm_client.proofs.Knows.{TakenIn}
use Rattle.sm_client.proofs.standing.add_all.Given as goal

abbrev pub invariant-loop-time : goal.invariant-loop-time
invariant-loop-time l = TakenIn l.expected l.times l.time-index l.initial.known l.known
