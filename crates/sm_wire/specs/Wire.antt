-- What the bytes that a connection has sent give: requests, and the headers and fragments of its pushes. RFC 9112, section 9.3; [MS-SSTR] 2.2.4.
use Rattle.std.specs.Prelude.{◌≡◌, ℕ, false, List, [], ◌∷◌, ◌++◌, map, Option, Some, None, if◌then◌else◌}
use Rattle.sm_model.specs.declared.cause.Cause.{Cause}
use Rattle.sm_model.specs.declared.cause.Refusal.{Refusal}
use Rattle.sm_model.specs.Items.{Given}
use Rattle.sm_model.specs.Items as given
use Rattle.sm_push.specs.Body.{Outcome, body, body_end}
use Rattle.sm_wire.specs.declared.item.WireItem.{WireItem}
use Rattle.sm_wire.specs.declared.item.WireItem.TheVariants.{Continue, Get, Header, Frag, End, Refuse}
use Rattle.sm_conn.specs.Parts.{PartItem, got, posted, continued, byte, ended, bad, IsParts}

abbrev pub shown : Given → WireItem
shown (given.Header channel) = Header channel
shown (given.Frag id f) = Frag f

-- a cause without a place
abbrev pub unplaced : Cause → Refusal
unplaced cause = record { at = 0; cause = cause }

-- the items of a push, and then its refusal, or else what stands here
abbrev pub pushed : Outcome → Option Refusal → List WireItem → List WireItem
pushed o (Some r) rest = map shown o.items ++ Refuse r ∷ []
pushed o None rest = map shown o.items ++ rest

-- What parts give. The bytes are those of the push that is open, if one is: each push goes through `body` afresh.
unfoldable pub wire : Option (List ℕ) → List PartItem → List WireItem
wire None [] = []
wire None (got target close ∷ parts) = Get target close ∷ (if close then [] else wire None parts)
wire None (continued ∷ parts) = Continue ∷ wire None parts
wire None (posted ∷ parts) = wire (Some []) parts
wire None (bad cause ∷ parts) = Refuse (unplaced cause) ∷ []
wire None (byte x ∷ parts) = []
wire None (ended close ∷ parts) = []
wire (Some b) [] = pushed (body false b) (body false b).refusal []
wire (Some b) (byte x ∷ parts) = wire (Some (b ++ x ∷ [])) parts
wire (Some b) (ended close ∷ parts) = pushed (body false b) (body_end false b) (End close ∷ (if close then [] else wire None parts))
wire (Some b) (bad cause ∷ parts) = pushed (body false b) (body false b).refusal (Refuse (unplaced cause) ∷ [])
wire (Some b) (got target close ∷ parts) = pushed (body false b) (body false b).refusal []
wire (Some b) (continued ∷ parts) = pushed (body false b) (body false b).refusal []
wire (Some b) (posted ∷ parts) = pushed (body false b) (body false b).refusal []

-- the bytes give these items
abbrev pub IsWire : List ℕ → List WireItem → Type 0
IsWire bytes items = (parts : List PartItem) × IsParts bytes parts × (items ≡ wire None parts)

-- With the push that is open, what parts give beyond the items that the push gave already.
abbrev pub Left : Option (List ℕ) → List PartItem → List WireItem → Type 0
Left None parts items = wire None parts ≡ items
Left (Some b) parts items = wire (Some b) parts ≡ map shown (body false b).items ++ items
