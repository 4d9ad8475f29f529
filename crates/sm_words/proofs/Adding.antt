-- Lists that a loop makes of another one, item by item.
use Rattle.std.proofs.Common.{◌≡◌, ◌≤◌, ◌<◌, ◌+◌, ℕ, List, [], ◌∷◌, ◌++◌, length, map, drop, get_or, sym, ap, ◌∙◌}
use Rattle.std.proofs.lemmas.List.{append_assoc, append-nil, at_drop_more, at_drop_all}
use Rattle.sm_words.specs.Words.{Text}

-- what was there and what is made of the items before this one, and what is to be made of the others, is all
abbrev pub AddedUpTo : {X : Type 0} → (X → Text) → List X → List Text → List Text → ℕ → Type 0
AddedUpTo f xs before sofar i = sofar ++ map f (drop i xs) ≡ before ++ map f xs

pub added_more : {X : Type 0} (f : X → Text) (xs : List X) (before sofar now : List Text) (i : ℕ) (d x : X) → i < length xs → x ≡ get_or xs i d
    → now ≡ sofar ++ f x ∷ [] → AddedUpTo f xs before sofar i → AddedUpTo f xs before now (i + 1)
added_more f xs before sofar now i d x lt is adds h =
    ap (λ (l : List Text). l ++ map f (drop (i + 1) xs)) adds
    ∙ append_assoc sofar (f x ∷ []) (map f (drop (i + 1) xs))
    ∙ ap (λ y. sofar ++ f y ∷ map f (drop (i + 1) xs)) is
    ∙ sym (at_drop_more (λ ys. sofar ++ map f ys) xs i d lt)
    ∙ h

pub added_all : {X : Type 0} (f : X → Text) (xs : List X) (before sofar : List Text) (i : ℕ) → length xs ≤ i → AddedUpTo f xs before sofar i
    → sofar ≡ before ++ map f xs
added_all f xs before sofar i le h = sym (append-nil sofar) ∙ sym (at_drop_all (λ ys. sofar ++ map f ys) xs i le) ∙ h
