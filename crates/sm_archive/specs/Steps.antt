-- What a call may make of a log and of an entry in doubt.
use Rattle.std.specs.Prelude.{◌≡◌, ◌⊎◌, List, [], ◌∷◌, ◌++◌, Option, None, Some, IsSome}
use Rattle.sm_model.specs.declared.entry.Entry.{Entry}

-- the log before, perhaps followed by the doubt: what settling leaves
abbrev pub Settles : List Entry → Option Entry → List Entry → Type 0
Settles log doubt after = (after ≡ log) ⊎ ((d : Entry) × (doubt ≡ Some d) × (after ≡ log ++ d ∷ []))

-- What a call leaves that ends with nothing in doubt: the log as it was, where nothing was in doubt, or a doubt settled, where the call acted.
abbrev pub Clears : Type 0 → List Entry → Option Entry → List Entry → Type 0
Clears acted log doubt after = ((doubt ≡ None) × (after ≡ log)) ⊎ (IsSome doubt × Settles log doubt after × acted)

-- the log before, perhaps followed by the doubt, by the entry being written, or by both in this order
abbrev pub Grows : List Entry → Option Entry → Entry → List Entry → Type 0
Grows log doubt e after = Settles log doubt after ⊎ ((mid : List Entry) × Settles log doubt mid × (after ≡ mid ++ e ∷ []))
