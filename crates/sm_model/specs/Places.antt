-- Places in a text: the first that was met, and the least of several.
use Rattle.std.specs.Prelude.{ℕ, List, [], ◌∷◌, min, Option, Some, None}

abbrev pub first_place : Option ℕ → ℕ → Option ℕ
first_place None at = Some at
first_place (Some earlier) at = Some earlier

abbrev pub sooner : Option ℕ → ℕ → Option ℕ
sooner None at = Some at
sooner (Some x) at = Some (min x at)

-- the least of these places
abbrev pub least_from : Option ℕ → List ℕ → Option ℕ
least_from f [] = f
least_from f (x ∷ xs) = least_from (sooner f x) xs
