-- That something is one of a list's elements.
use Rattle.std.proofs.Common.{◌≡◌, ℕ, zero, suc, List, [], ◌∷◌, ◌++◌, map, Some, ap, ◌⊎◌, inl, inr}
use Rattle.std.specs.Prelude.{slice_get}

abbrev pub Has : {X : Type 0} → X → List X → Type 0
Has a [] = ⊥
Has a (x ∷ xs) = (x ≡ a) ⊎ Has a xs

pub has_left : {X : Type 0} (a : X) (xs ys : List X) → Has a xs → Has a (xs ++ ys)
has_left a [] ys h = absurd h
has_left a (x ∷ xs) ys (inl e) = inl e
has_left a (x ∷ xs) ys (inr h) = inr (has_left a xs ys h)

pub has_right : {X : Type 0} (a : X) (xs ys : List X) → Has a ys → Has a (xs ++ ys)
has_right a [] ys h = h
has_right a (x ∷ xs) ys h = inr (has_right a xs ys h)

pub has_map : {X Y : Type 0} (f : X → Y) (a : X) (xs : List X) → Has a xs → Has (f a) (map f xs)
has_map f a [] h = absurd h
has_map f a (x ∷ xs) (inl e) = inl (ap f e)
has_map f a (x ∷ xs) (inr h) = inr (has_map f a xs h)

pub has_at : {X : Type 0} (a : X) (xs : List X) → Has a xs → (i : ℕ) × (slice_get xs i ≡ Some a)
has_at a [] h = absurd h
has_at {X} a (x ∷ xs) (inl e) = (zero, ap (λ (y : X). Some y) e)
has_at a (x ∷ xs) (inr h) = let r = has_at a xs h in (suc r.0, r.1)
