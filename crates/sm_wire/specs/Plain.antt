-- What one part leads to.
use Rattle.std.specs.Prelude.{◌≡◌, ℕ, Bool, true, false, List, [], ◌∷◌, ◌++◌, map, Option, Some, None}
use Rattle.sm_model.specs.declared.cause.Refusal.{Refusal}
use Rattle.sm_push.specs.Body.{body, body_end}
use Rattle.sm_conn.specs.declared.part.Part.{Part}
use Rattle.sm_conn.specs.Parts.{PartItem}
use Rattle.sm_conn.specs.Stands.{items_of}
use Rattle.sm_wire.specs.declared.item.WireItem.{WireItem}
use Rattle.sm_wire.specs.declared.item.WireItem.TheVariants.{Refuse}
use Rattle.sm_wire.specs.declared.plain.Behind.{Behind}
use Rattle.sm_wire.specs.declared.plain.Behind.TheVariants.{More, Last}
use Rattle.sm_wire.specs.Wire.{shown, wire}

-- the refusal of a push that ends behind the bytes, or goes on
abbrev pub refusal_by : Bool → List ℕ → Option Refusal
refusal_by true bytes = body_end false bytes
refusal_by false bytes = (body false bytes).refusal

-- the items of a push were added and nothing was refused, or its refusal was added too
abbrev pub IsGiven : List ℕ → Bool → Bool → List WireItem → List WireItem → Type 0
IsGiven bytes ends true before after = (refusal_by ends bytes ≡ None) × (after ≡ before ++ map shown (body false bytes).items)
IsGiven bytes ends false before after =
    (r : Refusal) × (refusal_by ends bytes ≡ Some r) × (after ≡ before ++ (map shown (body false bytes).items ++ Refuse r ∷ []))

-- behind an item that closes or not
abbrev pub unless_closed : Bool → Behind
unless_closed true = Last
unless_closed false = More None

-- What was given and what the part and later ones give is what is given now and what the later ones give: nothing, behind
-- the last part.
abbrev pub Goes : List WireItem → Option (List ℕ) → Part → Behind → List WireItem → Type 0
Goes before open_push part (More next) after = (rest : List PartItem) → before ++ wire open_push (items_of part ++ rest) ≡ after ++ wire next rest
Goes before open_push part Last after = (rest : List PartItem) → before ++ wire open_push (items_of part ++ rest) ≡ after
