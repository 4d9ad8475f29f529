use Rattle.std.proofs.Common.{Some, ap, sym, ◌∙◌, arith}
use Rattle.sm_model.specs.Moov.{single, trex}
use Rattle.sm_moov.proofs.PlainLemmas.{gather_spoils, gather_adds, gather_ends}
use Rattle.sm_moov.proofs.plain.trexes_in.Goals as goal

pub returns-in_default : goal.returns-in_default
returns-in_default c =
    gather_spoils (λ b. single (trex b)) (Some c.loop-body.trexes.items) _ c.args.boxes.now c.loop-body.body-index _ _ (omega arith) (c.as_slice.ensures ∙ c.body-item.is) c.loop-body.invariant
    (ap single (sym c.read_trex.ensures ∙ c.in_default.is))

pub loop-body-preserved : goal.loop-body-preserved
loop-body-preserved c =
    gather_adds (λ b. single (trex b)) c.loop-body.trexes.items _ _ _ c.args.boxes.now c.loop-body.body-index _ _ (omega arith) (c.as_slice.ensures ∙ c.body-item.is) c.loop-body.invariant
    (ap single (sym c.read_trex.ensures ∙ c.in-Some.is)) c.in_ok-push.ensures.items

pub returns : goal.returns
returns c = gather_ends (λ b. single (trex b)) c.loop-body.trexes.items _ c.args.boxes.now c.loop-body.body-index (omega arith) c.loop-body.invariant
