-- Canonical texts one after another can be cut in one way only.
use Rattle.std.proofs.Common.{◌≡◌, ℕ, List, [], ◌∷◌, ◌++◌, refl, sym, ap, ◌∙◌}
use Rattle.std.specs.List.{flat_map}
use Rattle.std.proofs.lemmas.List.Concat.{flat_map-cons}
use Rattle.sm_model.specs.Numbers.{number32}
use Rattle.sm_model.specs.Canonical.{Canonical, IsCanonical, IsJoin, text_of}

-- two canonical texts in front of the same bytes are one
abbrev pub IsCutOnce : Type 0
IsCutOnce = (c d : Canonical) (r s : List ℕ) → IsCanonical c → IsCanonical d → text_of c ++ r ≡ text_of d ++ s → (c ≡ d) × (r ≡ s)

no_text : (c : Canonical) (rest : List ℕ) → [] ≡ text_of c ++ rest → ⊥
unfolding number32
no_text c rest e = cc

pub same_join : IsCutOnce → (b : List ℕ) (cs ds : List Canonical) → IsJoin b cs → IsJoin b ds → cs ≡ ds
same_join once b [] [] p q = refl
same_join once b [] (d ∷ ds) p q = absurd (no_text d (flat_map text_of ds) (sym p.text ∙ q.text ∙ flat_map-cons text_of d ds))
same_join once b (c ∷ cs) [] p q = absurd (no_text c (flat_map text_of cs) (sym q.text ∙ p.text ∙ flat_map-cons text_of c cs))
same_join once b (c ∷ cs) (d ∷ ds) p q =
    let e = sym (flat_map-cons text_of c cs) ∙ sym p.text ∙ q.text ∙ flat_map-cons text_of d ds in
    let same = once c d (flat_map text_of cs) (flat_map text_of ds) p.canonical.0 q.canonical.0 e in
    let rest = same_join once (flat_map text_of cs) cs ds (record { canonical = p.canonical.1; text = refl }) (record { canonical = q.canonical.1; text = same.1 }) in
    ap (λ (x : Canonical). x ∷ cs) same.0 ∙ ap (λ (xs : List Canonical). d ∷ xs) rest
