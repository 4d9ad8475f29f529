use Rattle.std.proofs.Common.{◌∙◌, ap}
use Rattle.sm_push.specs.Body.{body, push_start}
use Rattle.sm_push.proofs.Boxes.{boxes_walk}
use Rattle.sm_push.proofs.Splits.{split_all}
use Rattle.sm_push.proofs.law.by_boxes.Goals as goal

pub returns-clause-any : goal.returns-clause-any
returns-clause-any c headerless b boxes rest s = ap (body headerless) s.whole ∙ boxes_walk c.whole_is_read.ensures (push_start headerless) boxes rest s.each s.last

pub returns-clause-split : goal.returns-clause-split
returns-clause-split c headerless b =
    let s = split_all c.whole_is_read.ensures b in
    (s.0, s.1, s.2, ap (body headerless) s.2.whole ∙ boxes_walk c.whole_is_read.ensures (push_start headerless) s.0 s.1 s.2.each s.2.last)
