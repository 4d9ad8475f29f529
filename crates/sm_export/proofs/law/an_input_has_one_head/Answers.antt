use Rattle.sm_export.proofs.OneHead.{one_head}
use Rattle.sm_export.proofs.law.an_input_has_one_head.Goals as goal

pub returns : goal.returns
returns c = one_head
