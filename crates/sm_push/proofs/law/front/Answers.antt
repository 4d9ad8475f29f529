use Rattle.sm_push.specs.Body.{push_start}
use Rattle.sm_push.proofs.Walking.{walk_front}
use Rattle.sm_push.proofs.law.front.Goals as goal

pub returns : goal.returns
returns c headerless p q = walk_front (push_start headerless) 0 p q
