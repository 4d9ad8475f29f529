-- What is read of the tags of a text, whatever its elements are.
use Rattle.std.specs.Prelude.{ℕ, Bool, List, [], ◌∷◌, ◌++◌, Option, Some, None, if◌then◌else◌}
use Rattle.sm_model.specs.declared.tag.Attribute.{Attribute}
use Rattle.sm_model.specs.declared.tag.Tag.{Tag}
use Rattle.sm_model.specs.declared.tag.Tag.TheVariants.{Start, Finish, Text, End, Bad}
use Rattle.sm_model.specs.Same.{is_same}

-- the value of the attribute of that name
abbrev pub attribute_of : List ℕ → List Attribute → Option (List ℕ)
attribute_of name [] = None
attribute_of name (a ∷ others) = if is_same a.name name then Some a.value else attribute_of name others

-- the open elements behind a start tag
abbrev pub enters : Bool → List ℕ → List (List ℕ) → List (List ℕ)
enters empty name path = if empty then path else path ++ name ∷ []

-- the place of the tag at fault, if there is one
abbrev pub bad_of : List Tag → Option ℕ
bad_of [] = None
bad_of (Bad at ∷ ts) = Some at
bad_of (End ∷ ts) = bad_of ts
bad_of (Text at ∷ ts) = bad_of ts
bad_of (Start name attributes empty at ∷ ts) = bad_of ts
bad_of (Finish name at ∷ ts) = bad_of ts
