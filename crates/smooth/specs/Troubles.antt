-- What the system said, beside the status with which the program ends.
use Rattle.std.specs.Prelude.{◌==◌, ◌&&◌, ◌⊎◌, nat_eq, ℕ, Bool, List, [], ◌∷◌, ◌++◌, Option, None, Some, is_some, codes, if◌then◌else◌}
use Rattle.std.specs.List.{starts_with}
use Rattle.std.specs.Io.KnownBytes.{Appends}
use Rattle.sm_ends.specs.Faults.{Rose}
use Rattle.sm_ends.specs.Moves.{AppendsFront}
use Rattle.sm_real.specs.declared.trouble.Trouble.{Trouble}

-- the first one that was said of this status
abbrev pub first_trouble : ℕ → List (ℕ × Option Trouble) → Option Trouble
first_trouble status [] = None
first_trouble status (x ∷ xs) = if (x.0 == status) && is_some x.1 then x.1 else first_trouble status xs

-- whether the first bytes of all begin as a line of a failure does, once these bytes are given
abbrev pub seen_failure : Option Bool → List ℕ → Option Bool
seen_failure None bytes = Some (starts_with nat_eq bytes (codes "error: "))
seen_failure (Some seen) bytes = Some seen

-- a text and the end of its line stand behind all else, or a front of them does and the output failed
abbrev pub TellsLine : Option (List ℕ) → Option (List ℕ) → ℕ → ℕ → Type 0
TellsLine old new faults faults' = (text : List ℕ) × (Appends old new (text ++ codes "\n") ⊎ (AppendsFront old new (text ++ codes "\n") × Rose faults faults'))
