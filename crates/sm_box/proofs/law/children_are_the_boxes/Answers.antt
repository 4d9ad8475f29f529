use Rattle.sm_box.proofs.WalkLemmas.{item_boxes, done_boxes, bad_boxes}
use Rattle.sm_box.proofs.law.children_are_the_boxes.Goals as goal

pub returns-clause-item : goal.returns-clause-item
returns-clause-item c = item_boxes

pub returns-clause-done : goal.returns-clause-done
returns-clause-done c = done_boxes

pub returns-clause-bad : goal.returns-clause-bad
returns-clause-bad c = bad_boxes
