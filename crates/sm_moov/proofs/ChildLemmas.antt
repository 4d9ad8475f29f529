-- The first child of a type.
use Rattle.std.proofs.Common.{◌≡◌, ℕ, List, Option, Some, None, refl, ap, ◌∙◌}
use Rattle.std.specs.Option.{option_map, option_and_then}
use Rattle.sm_model.specs.Boxes.{Box, boxes}
use Rattle.sm_model.specs.Found.{Found, found, bodies}
use Rattle.sm_model.specs.Moov.{some_body, first_child}

through : (o : Option (List Box)) (f : List Box → Found) → option_and_then some_body (option_map f o) ≡ option_and_then (λ xs. some_body (f xs)) o
through None f = refl
through (Some xs) f = refl

-- by what was found of the type, if the children are whole
pub first_child_is : (name b : List ℕ) (o : Option Found) → o ≡ option_map (λ xs. found (bodies name xs)) (boxes b) → option_and_then some_body o ≡ first_child name b
unfolding first_child
first_child_is name b o e = ap (option_and_then some_body) e ∙ through (boxes b) (λ xs. found (bodies name xs))
