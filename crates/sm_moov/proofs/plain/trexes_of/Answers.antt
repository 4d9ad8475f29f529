use Rattle.std.proofs.Common.{Some, sym, ◌∙◌, arith}
use Rattle.sm_model.specs.Moov.{mvex}
use Rattle.sm_moov.proofs.PlainLemmas.{gather_spoils, gather_adds, gather_ends}
use Rattle.sm_moov.proofs.plain.trexes_of.Goals as goal

pub returns-in_default : goal.returns-in_default
returns-in_default c =
    gather_spoils mvex (Some c.loop-body.trexes.items) _ c.args.mvexes.now c.loop-body.body-index _ _ (omega arith) (c.as_slice.ensures ∙ c.body-item.is) c.loop-body.invariant
    (sym (rw c.in_default.is at c.in_ok-more.ensures))

pub loop-body-preserved : goal.loop-body-preserved
loop-body-preserved c =
    gather_adds mvex c.loop-body.trexes.items _ _ _ c.args.mvexes.now c.loop-body.body-index _ _ (omega arith) (c.as_slice.ensures ∙ c.body-item.is) c.loop-body.invariant
    (sym (rw c.in-Some.is at c.in_ok-more.ensures)) (rw c.deref.ensures.value at c.in_ok-extend_from_slice.ensures.items)

pub returns : goal.returns
returns c = gather_ends mvex c.loop-body.trexes.items _ c.args.mvexes.now c.loop-body.body-index (omega arith) c.loop-body.invariant
