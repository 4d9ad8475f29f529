-- The boxes of one kind among the children of a box.
use Rattle.std.specs.Prelude.{ℕ, Bool, true, false, ◌&&◌, nat_eq, List, [], ◌∷◌, drop, map, filter, codes}
use Rattle.std.specs.List.{starts_with}
use Rattle.std.specs.Cmp.Lexicographic.{pointwise}
use Rattle.sm_model.specs.Boxes.{Box}

-- whether there is one, whether there is a second, and the first one's body
pub record Found : Type 0 where
  pub some : Bool
  pub twice : Bool
  pub first : List ℕ

abbrev pub found : List (List ℕ) → Found
found [] = record { some = false; twice = false; first = [] }
found (b ∷ []) = record { some = true; twice = false; first = b }
found (b ∷ c ∷ bs) = record { some = true; twice = true; first = b }

-- a box of this four-character type
abbrev pub is_kind : List ℕ → Box → Bool
is_kind name x = pointwise nat_eq x.kind name

-- a `uuid` box whose body begins with this user type; one with a body too short for a user type is none
abbrev pub is_user : List ℕ → Box → Bool
is_user name x = is_kind (codes "uuid") x && starts_with nat_eq x.body name

unfoldable pub bodies : List ℕ → List Box → List (List ℕ)
bodies name xs = map (λ x. x.body) (filter (is_kind name) xs)

-- what stands behind the user type, which has 16 bytes
unfoldable pub user_bodies : List ℕ → List Box → List (List ℕ)
user_bodies name xs = map (λ x. drop 16 x.body) (filter (is_user name) xs)
