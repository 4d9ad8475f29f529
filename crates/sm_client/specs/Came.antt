-- What came of the exchanges of a stream: which asked for a fragment and were given it, in their order. Nothing here goes along with the play.
use Rattle.std.specs.Prelude.{◌≡◌, ◌+◌, ℕ, List, [], ◌∷◌, ◌++◌, take}
use Rattle.sm_model.specs.declared.run.RawFragment.{RawFragment}
use Rattle.sm_model.specs.FragText.{frag_text}
use Rattle.sm_fetch.specs.declared.got.Got.{Got}
use Rattle.sm_fetch.specs.declared.got.Got.TheVariants as got
use Rattle.sm_fetch.specs.Requests.{manifest_request, fragment_request}
use Rattle.sm_fetch.specs.Spelt.{SpellsManifest, SpellsFragment, given}
use Rattle.sm_client.specs.declared.plan.Plan.{Plan}
use Rattle.sm_client.specs.Stands.{Item, list, piece}

-- the request was for the manifest, or for a fragment of this stream, and this is what the answer spells to it
abbrev pub IsAnswered : Plan → List ℕ → Item → Type 0
IsAnswered plan name (list x g) = (x.request ≡ manifest_request plan.place) × SpellsManifest x.answer g
IsAnswered plan name (piece x g level) = (url : List ℕ) × (bitrate start : ℕ)
    × (x.request ≡ fragment_request plan.place url (record { stream = name; bitrate = bitrate; time = start })) × SpellsFragment start x.answer g

-- a fragment, and the place in the ladder at which it was asked for
abbrev pub given_by : Got → ℕ → List (ℕ × RawFragment)
given_by (got.Fragment raw) level = (level, raw) ∷ []
given_by (got.Manifest l) level = []
given_by (got.Status status) level = []
given_by got.Cut level = []
given_by (got.Unreadable at) level = []
given_by got.Lost level = []
given_by got.NoMemory level = []

abbrev pub came_by : Item → List (ℕ × RawFragment)
came_by (list x g) = []
came_by (piece x g level) = given_by g level

-- all fragments that came, in the order of the exchanges
abbrev pub came : List Item → List (ℕ × RawFragment)
came [] = []
came (x ∷ more) = came_by x ++ came more

-- their canonical texts, numbered on from n, under the place in the ladder plus 1 as track_ID, with nothing named ahead
abbrev pub came_texts : ℕ → List (ℕ × RawFragment) → List ℕ
came_texts n [] = []
came_texts n (c ∷ more) = frag_text n (c.0 + 1) (given [] 0 c.1) [] ++ came_texts (n + 1) more

-- each starts where the one before it ended, the first at this start
abbrev pub FollowOn : ℕ → List (ℕ × RawFragment) → Type 0
FollowOn start [] = Unit {0}
FollowOn start (c ∷ more) = (c.1.time ≡ start) × FollowOn (c.1.time + c.1.duration) more

-- a front of these bytes
abbrev pub IsFrontOf : List ℕ → List ℕ → Type 0
IsFrontOf bytes tail = (count : ℕ) × (tail ≡ take count bytes)
