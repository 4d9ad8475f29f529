-- What the bytes that a connection has sent give, whatever the pieces: heads, and the bodies behind them. RFC 9112, sections 2, 6, 9.3.
use Rattle.std.specs.Prelude.{◌≡◌, ◌≢◌, ℕ, ◌+◌, ◌≤◌, Bool, List, [], ◌∷◌, ◌++◌, length, map, Ok, if◌then◌else◌}
use Rattle.httparse.specs.Grammar.{RequestHead, ReadsRequest}
use Rattle.sm_model.specs.declared.cause.Cause.{Cause}
use Rattle.sm_model.specs.declared.cause.Cause.TheVariants.{BadChunk}
use Rattle.sm_model.specs.declared.framing.Framing.{Framing}
use Rattle.sm_model.specs.declared.target.Target.{Target}
use Rattle.sm_body.specs.declared.place.Place.{Place}
use Rattle.sm_body.specs.declared.place.Place.TheVariants.{Ended, Failed}
use Rattle.sm_body.specs.Places.{start, place_after, next_place, body_from}
use Rattle.sm_head.specs.declared.asked.Verb.{Verb}
use Rattle.sm_head.specs.declared.asked.Verb.TheVariants.{Get, Post}
use Rattle.sm_head.specs.declared.asked.Asked.{Asked}
use Rattle.sm_head.specs.Judged.{judged}
use Rattle.sm_head.specs.Requests.{IsWaiting, IsRefused}

-- One thing that the bytes give. A body is given byte by byte, so that it doesn't matter how it was cut.
pub data PartItem : Type 0 where
  got : Target → Bool → PartItem
  posted : PartItem
  continued : PartItem
  byte : ℕ → PartItem
  ended : Bool → PartItem
  bad : Cause → PartItem

-- where a connection stands: in a head of which these bytes came; in a body, behind which it closes or not; or behind the last item
pub data Mode : Type 0 where
  in_head : List ℕ → Mode
  in_body : Place → Bool → Mode
  closed : Mode

-- behind an item that closes or not
abbrev pub behind_item : Bool → Mode
behind_item close = if close then closed else in_head []

abbrev pub opening_of : Verb → Target → Bool → Bool → List PartItem
opening_of Get target close expects = got target close ∷ []
opening_of Post target close expects = if expects then continued ∷ posted ∷ [] else posted ∷ []

abbrev pub mode_behind : Verb → Framing → Bool → Mode
mode_behind Get framing close = behind_item close
mode_behind Post framing close = in_body (start framing) close

-- what a head gives by itself, and where it leads
abbrev pub opening : Asked → List PartItem
opening a = opening_of a.method a.target a.close a.expects

abbrev pub behind_head : Asked → Mode
behind_head a = mode_behind a.method a.framing a.close

-- From the mode, the bytes give these items and lead to the last mode.
pub data Reads : Mode → List ℕ → List PartItem → Mode → Type 0 where
  -- nothing is whole yet
  waiting : (mode last : Mode) (bytes : List ℕ) (items : List PartItem) (kept : List ℕ)
      → mode ≡ in_head kept → IsWaiting (kept ++ bytes) → items ≡ [] → last ≡ in_head (kept ++ bytes)
      → Reads mode bytes items last
  -- the head is refused, and nothing follows
  refused : (mode last : Mode) (bytes : List ℕ) (items : List PartItem) (kept : List ℕ) (cause : Cause)
      → mode ≡ in_head kept → IsRefused (kept ++ bytes) cause → items ≡ bad cause ∷ [] → last ≡ closed
      → Reads mode bytes items last
  -- the shortest front that is a head, and what follows it
  whole : (mode last : Mode) (bytes : List ℕ) (items : List PartItem) (kept rest : List ℕ) (h : RequestHead) (asked : Asked) (others : List PartItem)
      → mode ≡ in_head kept → ReadsRequest (kept ++ bytes) h rest → length (kept ++ bytes) ≤ length rest + 8192 → judged h ≡ Ok asked
      → Reads (behind_head asked) rest others last → items ≡ opening asked ++ others
      → Reads mode bytes items last
  -- the body goes on
  body : (mode last : Mode) (bytes : List ℕ) (items : List PartItem) (place : Place) (close : Bool)
      → mode ≡ in_body place close → place_after place bytes ≢ Ended → place_after place bytes ≢ Failed
      → items ≡ map (λ b. byte b) (body_from place bytes) → last ≡ in_body (place_after place bytes) close
      → Reads mode bytes items last
  -- the body ends, and what follows it
  stopped : (mode last : Mode) (bytes : List ℕ) (items : List PartItem) (place : Place) (close : Bool) (front rest : List ℕ) (others : List PartItem)
      → mode ≡ in_body place close → bytes ≡ front ++ rest → place_after place front ≡ Ended
      → Reads (behind_item close) rest others last
      → items ≡ map (λ b. byte b) (body_from place front) ++ (ended close ∷ others)
      → Reads mode bytes items last
  -- a byte stands where none can, and the body hasn't ended
  failed : (mode last : Mode) (bytes : List ℕ) (items : List PartItem) (place : Place) (close : Bool) (front : List ℕ) (wrong : ℕ) (rest : List ℕ)
      → mode ≡ in_body place close → bytes ≡ front ++ wrong ∷ rest → place_after place front ≢ Ended → place_after place front ≢ Failed
      → next_place (place_after place front) wrong ≡ Failed
      → items ≡ map (λ b. byte b) (body_from place front) ++ (bad BadChunk ∷ []) → last ≡ closed
      → Reads mode bytes items last
  -- nothing follows
  shut : (mode last : Mode) (bytes : List ℕ) (items : List PartItem)
      → mode ≡ closed → items ≡ [] → last ≡ closed
      → Reads mode bytes items last

-- the bytes of a connection give these items
abbrev pub IsParts : List ℕ → List PartItem → Type 0
IsParts bytes items = (last : Mode) × Reads (in_head []) bytes items last
