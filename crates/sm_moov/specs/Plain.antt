-- The bodies of boxes of one type, added to others.
use Rattle.std.specs.Prelude.{◌≡◌, ℕ, Bool, true, false, List, ◌++◌, Some, None}
use Rattle.sm_model.specs.Boxes.{Box, boxes}
use Rattle.sm_model.specs.Found.{bodies}

-- those of these bytes, where they are whole boxes, behind the old ones
abbrev pub AddsBodies : List ℕ → List ℕ → Bool → List (List ℕ) → List (List ℕ) → Type 0
AddsBodies name b true old new = (xs : List Box) × (boxes b ≡ Some xs) × (new ≡ old ++ bodies name xs)
AddsBodies name b false old new = boxes b ≡ None
