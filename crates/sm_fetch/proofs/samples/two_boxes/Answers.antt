use Rattle.std.proofs.Common.{take, drop, subst, sym}
use Rattle.sm_model.specs.Boxes.{IsOneBox}
use Rattle.sm_fetch.proofs.Pairs.{not_true, not_one, not_rest}
use Rattle.sm_fetch.proofs.samples.two_boxes.Goals as goal

pub returns-then-not-is_one_box : goal.returns-then-not-is_one_box
returns-then-not-is_one_box c =
    not_one (record { whole = c.whole_stays.ensures.whole; same = c.whole_stays.ensures.same }) c.args.body.now c.in-Some.field-0-0 c.in-Some.size c.in-Some.ensures.some
    (not_true c.is_one_box.result (IsOneBox (take c.in-Some.size c.args.body.now)) c.if-not-is_one_box.true
    (λ one. c.is_one_box.ensures.1 (subst IsOneBox (sym c.split_at.ensures.front) one)))

pub returns-then-not-is_one_box-2 : goal.returns-then-not-is_one_box-2
returns-then-not-is_one_box-2 c =
    not_rest (record { whole = c.whole_stays.ensures.whole; same = c.whole_stays.ensures.same }) c.args.body.now c.in-Some.field-0-0 c.in-Some.size c.in-Some.ensures.some
    (not_true c.is_one_box-2.result (IsOneBox (drop c.in-Some.size c.args.body.now)) c.if-not-is_one_box-2.true
    (λ one. c.is_one_box-2.ensures.1 (subst IsOneBox (sym c.split_at.ensures.back) one)))
