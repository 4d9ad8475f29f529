-- Fronts of bytes.
use Rattle.std.proofs.Common.{◌≡◌, ◌≢◌, ◌<◌, ◌≤◌, ℕ, List, [], ◌∷◌, ◌++◌, length, take, refl, ap, ◌∙◌, arith, ⊎_elim, length-append}
use Rattle.std.proofs.lemmas.List.{append-nil}
use Rattle.std.proofs.lemmas.Bool.{cases_lt}
use Rattle.sm_body.specs.declared.place.Place.{Place}
use Rattle.sm_body.specs.declared.place.Place.TheVariants.{Ended}
use Rattle.sm_body.specs.Places.{place_after}

take_front : (xs ys : List ℕ) → take (length xs) (xs ++ ys) ≡ xs
take_front [] ys = refl
take_front (x ∷ xs) ys = ap (λ t. x ∷ t) (take_front xs ys)

none_left : (xs ys : List ℕ) → length (xs ++ ys) ≤ length xs → ys ≡ []
none_left xs [] few = refl
none_left xs (y ∷ ys) few = let l = length-append xs (y ∷ ys) in absurd (omega (arith, l, few))

-- where neither the fronts of fewer bytes nor all of them lead to the end, no front does
pub no_front_ends : (p : Place) (bytes : List ℕ) (end : ℕ) → length bytes ≤ end → ((k : ℕ) → k < end → place_after p (take k bytes) ≢ Ended)
    → place_after p bytes ≢ Ended → (framed rest : List ℕ) → bytes ≡ framed ++ rest → place_after p framed ≢ Ended
no_front_ends p bytes end past fronts all framed rest joined is = ⊎_elim
    (λ (low : length framed < end). fronts (length framed) low (ap (λ b. place_after p b) (ap (take (length framed)) joined ∙ take_front framed rest) ∙ is))
    (λ (high : end ≤ length framed). all (ap (λ b. place_after p b) (joined ∙ ap (λ r. framed ++ r) (nothing high) ∙ append-nil framed) ∙ is))
    (cases_lt (length framed) end)
  where
    nothing : end ≤ length framed → rest ≡ []
    nothing high = none_left framed rest (let e = ap length joined in omega (arith, e, past, high))
