-- The values of the fields of a head. RFC 9110, section 5.
use Rattle.std.specs.Prelude.{◌≡◌, ℕ, ◌<◌, Bool, true, false, not, nat_lt, List, [], ◌∷◌, length, map, if◌then◌else◌}
use Rattle.std.specs.List.{flat_map, list_any}
use Rattle.std.specs.Char.{to_ascii_lowercase}
use Rattle.std.specs.Str.{bytes_eq}
use Rattle.sm_head.specs.declared.fields.Lookup.{Lookup}
use Rattle.sm_head.specs.declared.fields.Lookup.TheVariants.{Absent, Once, Several}

-- the two texts are equal without regard to case
abbrev pub is_text : List ℕ → List ℕ → Bool
is_text wanted text = bytes_eq (map to_ascii_lowercase text) (map to_ascii_lowercase wanted)

-- the value, if the pair has the name
abbrev pub value_if : List ℕ → List ℕ × List ℕ → List (List ℕ)
value_if wanted pair = if is_text wanted pair.0 then pair.1 ∷ [] else []

-- the values of the pairs of that name, in order
abbrev pub values_in : List ℕ → List (List ℕ × List ℕ) → List (List ℕ)
values_in wanted pairs = flat_map (value_if wanted) pairs

-- one of the values is this text
abbrev pub has_value : List ℕ → List ℕ → List (List ℕ × List ℕ) → Bool
has_value name text pairs = list_any (is_text text) (values_in name pairs)

abbrev pub is_several : List (List ℕ) → Bool
is_several values = nat_lt 1 (length values)

abbrev pub is_there : List (List ℕ) → Bool
is_there values = nat_lt 0 (length values)

-- there is a value, and it isn't this text alone
abbrev pub is_other : List ℕ → List (List ℕ) → Bool
is_other text [] = false
is_other text (v ∷ []) = not (is_text text v)
is_other text (v ∷ w ∷ vs) = true

-- there is no value, or one, or several
abbrev pub IsLookup : Lookup → List (List ℕ) → Type 0
IsLookup Absent values = values ≡ []
IsLookup (Once value) values = values ≡ value.now ∷ []
IsLookup Several values = 1 < length values
