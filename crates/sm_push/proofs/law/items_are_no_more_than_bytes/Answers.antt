use Rattle.sm_push.specs.Body.{push_start}
use Rattle.sm_push.proofs.Counts.{walk_few}
use Rattle.sm_push.proofs.law.items_are_no_more_than_bytes.Goals as goal

pub returns : goal.returns
returns c headerless b = walk_few (push_start headerless) 0 b
