use Rattle.std.proofs.Common.{◌∙◌, ℕ, List, Option, Some, None, ap, sym, refl, subst}
use Rattle.std.specs.Prelude.{Result, ok_or}
use Rattle.sm_model.specs.declared.run.Defaults.{Defaults}
use Rattle.sm_model.specs.declared.heads.TrackHead.{TrackHead}
use Rattle.sm_model.specs.Moov.{settled}
use Rattle.sm_model.specs.Gives.{Gives}
use Rattle.sm_model.specs.declared.cause.Cause.{Cause}
use Rattle.sm_model.specs.declared.cause.Cause.TheVariants.{BadMoov}
use Rattle.sm_moov.proofs.MoovLemmas.{said, moov_from, no_heads}
use Rattle.sm_moov.proofs.read.read_moov.Goals as goal

abbrev found : Option (List TrackHead) → Result (List TrackHead) Cause
found heads = ok_or heads BadMoov

pub returns-in_default : goal.returns-in_default
returns-in_default c =
    let ts = sym (ap said c.in_default.is) ∙ c.in_ok-trexes.ensures in
    ap found (moov_from c.args.body.now None _ ts refl)

pub returns-in_default-2 : goal.returns-in_default-2
returns-in_default-2 c =
    let hs = sym (ap said c.in_default-2.is) ∙ c.in_ok-heads.ensures in
    ap found (moov_from c.args.body.now _ None c.in_ok-trexes.ensures hs ∙ no_heads _)

pub returns : goal.returns
returns c =
    let ts = sym (ap said c.in-Some.is) ∙ c.in_ok-trexes.ensures in
    let hs = sym (ap said c.in-Some-2.is) ∙ c.in_ok-heads.ensures in
    let trexes = c.in-Some.trexes.items in
    let heads = c.in-Some-2.heads.items in
    let says = λ (said : Option (List TrackHead)). Gives c.settle.result (found said) in
    subst says (sym (moov_from c.args.body.now (Some trexes) (Some heads) ts hs))
    (subst (λ (h : List TrackHead). says (settled trexes h)) c.deref-2.ensures.value
    (subst (λ (t : List (ℕ × Defaults)). says (settled t c.deref-2.result.now)) c.deref.ensures.value c.settle.ensures))
