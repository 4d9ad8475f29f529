-- Lists that grow at the end.
use Rattle.std.proofs.Common.{◌≡◌, List, [], ◌∷◌, ◌++◌, refl, sym, ap, ◌∙◌, ◌⊎◌, inl, inr}

module _ {A : Type 0} where
  pub no_tail : (ys : List A) (x : A) (back : List A) → [] ≡ ys ++ x ∷ back → ⊥
  no_tail [] x back e = absurd cc
  no_tail (y ∷ ys) x back e = absurd cc

  heads : (a b : A) (xs ys : List A) → a ∷ xs ≡ b ∷ ys → a ≡ b
  heads a b xs ys e = cc

  tails : (a b : A) (xs ys : List A) → a ∷ xs ≡ b ∷ ys → xs ≡ ys
  tails a b xs ys e = cc

  -- where a list with one more at its end is split, the last or one before it stands at the split
  pub split_last : (xs front : List A) (e x : A) (back : List A) → xs ++ e ∷ [] ≡ front ++ x ∷ back → ((front ≡ xs) × (x ≡ e)) ⊎ ((more : List A) × (xs ≡ front ++ x ∷ more))
  split_last [] [] e x back eq = inl (refl, sym (heads e x [] back eq))
  split_last [] (y ∷ ys) e x back eq = absurd (no_tail ys x back (tails e y [] (ys ++ x ∷ back) eq))
  split_last (l ∷ ls) [] e x back eq = inr (ls, ap (λ (a : A). a ∷ ls) (heads l x (ls ++ e ∷ []) back eq))
  split_last (l ∷ ls) (y ∷ ys) e x back eq =
      let h = heads l y (ls ++ e ∷ []) (ys ++ x ∷ back) eq in
      elim (split_last ls ys e x back (tails l y (ls ++ e ∷ []) (ys ++ x ∷ back) eq)) [
        | inl last ↦ inl (ap (λ (zs : List A). y ∷ zs) last.0 ∙ ap (λ (a : A). a ∷ ls) (sym h), last.1)
        | inr before ↦ inr (before.0, ap (λ (a : A). a ∷ ls) h ∙ ap (λ (zs : List A). y ∷ zs) before.1)
      ]
