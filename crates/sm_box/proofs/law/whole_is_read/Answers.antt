use Rattle.sm_model.specs.Boxes.{box_of}
use Rattle.sm_box.proofs.HeadLemmas.{whole_head}
use Rattle.sm_box.proofs.law.whole_is_read.Goals as goal

pub returns : goal.returns
unfolding box_of
returns c = whole_head
