use Rattle.std.proofs.Common.{◌≡◌, ℕ, ◌+◌, ◌<◌, ◌≤◌, Bool, false, cond, List, [], ◌∷◌, length, drop, get_or, Some, None, refl, ap, sym, ◌∙◌, arith, length-drop}
use Rattle.std.proofs.lemmas.List.{drop_more}
use Rattle.sm_model.specs.Same.{is_same}
use Rattle.sm_manout.specs.Shown.{quoted}
use Rattle.sm_manout.proofs.plain.quoted.Goals as goal

two_more : (lead : List ℕ) (ps : List (List ℕ)) (i : ℕ) (x : List ℕ) → i + 1 < length ps → x ≡ get_or ps i x → is_same x lead ≡ false → quoted lead (drop i ps) ≡ quoted lead (drop (i + 2) ps)
two_more lead ps i x lt is off =
    let low : i < length ps = omega arith in
    let second = drop_more ps (i + 1) x lt in
    let place : i + 1 + 1 ≡ i + 2 = omega arith in
    let both : drop i ps ≡ x ∷ get_or ps (i + 1) x ∷ drop (i + 2) ps =
    drop_more ps i x low ∙ ap (λ (y : List ℕ). y ∷ drop (i + 1) ps) (sym is) ∙ ap (λ (l : List (List ℕ)). x ∷ l) (second ∙ ap (λ (n : ℕ). get_or ps (i + 1) x ∷ drop n ps) place) in
    ap (quoted lead) both ∙ ap (λ (b : Bool). cond b (Some (get_or ps (i + 1) x)) (quoted lead (drop (i + 2) ps))) off

short : (lead : List ℕ) (ps : List (List ℕ)) → length ps ≤ 1 → quoted lead ps ≡ None
short lead [] few = refl
short lead (p ∷ []) few = refl
short lead (p ∷ q ∷ ps) few = absurd (omega arith)

pub loop-i-preserved : goal.loop-i-preserved
loop-i-preserved c =
    let off = sym (ap (λ (p : List ℕ). is_same p c.args.lead.now) c.as_slice.ensures) ∙ sym c.eq.ensures ∙ c.if-eq.false in
    (omega arith, sym (two_more c.args.lead.now c.args.pieces.now c.loop-i.i c.index-pieces-i.result c.loop-i-test.true c.index-pieces-i.is off) ∙ c.loop-i.invariant.1)

pub returns : goal.returns
returns c =
    sym (short c.args.lead.now (drop c.loop-i.i c.args.pieces.now) (omega (arith, length-drop {A = List ℕ}))) ∙ c.loop-i.invariant.1
