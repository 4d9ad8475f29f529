use Rattle.std.proofs.Common.{◌+◌, length}
use Rattle.sm_model.proofs.WrittenBoxes.{one_box}
use Rattle.sm_box.proofs.WrittenLemmas.{is_text, written_head, written_whole}
use Rattle.sm_box.proofs.law.written_box_is_read.Goals as goal

pub returns-clause-head : goal.returns-clause-head
returns-clause-head c = λ kind body rest k f. written_head (8 + length body) kind body rest (is_text kind body k f)

pub returns-clause-whole : goal.returns-clause-whole
returns-clause-whole c = λ kind body rest k f. written_whole (8 + length body) kind body rest (is_text kind body k f)

pub returns-clause-boxes : goal.returns-clause-boxes
returns-clause-boxes c = λ kind body rest k f. one_box (8 + length body) kind body rest (is_text kind body k f)
