use Rattle.sm_push.proofs.Splits.{alone_boxes, boxes_alone}
use Rattle.sm_push.proofs.law.texts_of_boxes_have_no_rest.Goals as goal

pub returns-clause-text : goal.returns-clause-text
returns-clause-text c = alone_boxes c.boxes_are.ensures.one

pub returns-clause-boxes : goal.returns-clause-boxes
returns-clause-boxes c = boxes_alone c.boxes_are.ensures.one
