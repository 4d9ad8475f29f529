-- What a play asks for one stream, and who chooses.
use Rattle.std.specs.Prelude.{◌≡◌, ◌<◌, ◌⊎◌, ℕ, true, false, List, [], ◌∷◌, length, map, Some}
use Rattle.sm_policy.specs.declared.policy.Heard.{Heard}
use Rattle.sm_policy.specs.declared.policy.Outcome.{Outcome}
use Rattle.sm_policy.specs.declared.policy.Outcome.TheVariants.{Took, Missed}
use Rattle.sm_manin.specs.declared.listing.StreamListing.{StreamListing}
use Rattle.sm_fetch.specs.declared.dial.Exchange.{Exchange}
use Rattle.sm_fetch.specs.declared.got.Got.{Got}
use Rattle.sm_fetch.specs.declared.got.Got.TheVariants as got
use Rattle.sm_fetch.specs.Exchanges.{answer_len}
use Rattle.sm_fetch.specs.Requests.{manifest_request, manifest_limit, fragment_request, fragment_limit}
use Rattle.sm_fetch.specs.Spelt.{SpellsManifest, SpellsFragment}
use Rattle.sm_client.specs.declared.plan.Plan.{Plan}
use Rattle.sm_client.specs.Turns.{Meaning, Turn, hears}
use Rattle.sm_client.specs.Starts.{has, AreAfter}
use Rattle.sm_client.specs.Stands.{Item, list, piece, Standing, Stand, unread, absent, standing, State, listed_starts, ladder_of, address_at, state_by}

-- ---- when a manifest is read

-- it is not of this start, or it lists nothing behind it and fewer manifests of this start were read than are to be
abbrev pub IsStale : Plan → Standing → Type 0
IsStale plan p = (p.manifests ≡ 0) ⊎ ((p.manifests < plan.refresh) × ((k : ℕ) → has k (listed_starts p.listing) ≡ true → k < p.expected))

-- more are wanted, the expected start isn't known, and the last manifest doesn't settle the matter
pub record Relists (plan : Plan) (p : Standing) : Type 0 where
  pub more : length p.written < plan.count
  pub unknown : has p.expected p.known ≡ false
  pub stale : IsStale plan p

abbrev pub MayList : Plan → Stand → Type 0
MayList plan unread = Unit {0}
MayList plan absent = ⊥
MayList plan (standing p) = Relists plan p

-- the manifest is asked for, at the place of the plan
pub record MadeList (plan : Plan) (s : State) (x : Exchange) (g : Got) : Type 0 where
  pub may : MayList plan s.stand
  pub tries : length s.missed < plan.tries
  pub request : x.request ≡ manifest_request plan.place
  pub limit : x.limit ≡ manifest_limit
  pub spells : SpellsManifest x.answer g

-- ---- when a fragment is asked for

-- The expected start is asked for, at the bitrate that the policy that acts chooses by the ladder of the last manifest and the
-- number of known starts behind it.
pub record MadePiece {P : Type 0} (m : Meaning P) (plan : Plan) (name : List ℕ) (t : Turn P) (s : State) (x : Exchange) (g : Got) (level : ℕ) : Type 0 where
  pub at : Standing
  pub stands : s.stand ≡ standing at
  pub more : length at.written < plan.count
  pub known : has at.expected at.known ≡ true
  pub tries : length s.missed < plan.tries
  pub listing : StreamListing
  pub last : at.listing ≡ Some listing
  pub after : List ℕ
  pub behind : AreAfter at.known at.expected after
  pub chosen : level ≡ m.pick t.who t.heard (ladder_of listing.levels) (length after)
  pub within : level < length listing.levels
  pub request : x.request ≡ fragment_request plan.place listing.pattern (address_at name listing at.expected level)
  pub limit : x.limit ≡ fragment_limit
  pub spells : SpellsFragment at.expected x.answer g

-- ---- what policies hear

-- a fragment that was read was taken, with the length of the whole answer; all else is a miss
abbrev pub outcome_of : Got → Exchange → Outcome
outcome_of (got.Fragment raw) x = Took (answer_len x.answer)
outcome_of (got.Manifest l) x = Missed
outcome_of (got.Status status) x = Missed
outcome_of got.Cut x = Missed
outcome_of (got.Unreadable at) x = Missed
outcome_of got.Lost x = Missed
outcome_of got.NoMemory x = Missed

abbrev pub heard_of : Got → Exchange → ℕ → Heard
heard_of g x level = record { level = level; outcome = outcome_of g x }

-- what wanted memory isn't heard
abbrev pub hears_got : {P : Type 0} → Meaning P → Turn P → Got → Exchange → ℕ → Turn P
hears_got m t (got.Fragment raw) x level = hears m t (heard_of (got.Fragment raw) x level)
hears_got m t (got.Manifest l) x level = hears m t (heard_of (got.Manifest l) x level)
hears_got m t (got.Status status) x level = hears m t (heard_of (got.Status status) x level)
hears_got m t got.Cut x level = hears m t (heard_of got.Cut x level)
hears_got m t (got.Unreadable at) x level = hears m t (heard_of (got.Unreadable at) x level)
hears_got m t got.Lost x level = hears m t (heard_of got.Lost x level)
hears_got m t got.NoMemory x level = t

abbrev pub turn_by : {P : Type 0} → Meaning P → Turn P → Item → Turn P
turn_by m t (list x g) = t
turn_by m t (piece x g level) = hears_got m t g x level

abbrev pub turn_after : {P : Type 0} → Meaning P → Turn P → List Item → Turn P
turn_after m t [] = t
turn_after m t (x ∷ more) = turn_after m (turn_by m t x) more

-- ---- the exchanges of a stream

abbrev pub Made : {P : Type 0} → Meaning P → Plan → List ℕ → Turn P → State → Item → Type 0
Made m plan name t s (list x g) = MadeList plan s x g
Made m plan name t s (piece x g level) = MadePiece m plan name t s x g level

abbrev pub IsRead : Got → Type 0
IsRead (got.Manifest l) = Unit {0}
IsRead (got.Fragment raw) = Unit {0}
IsRead (got.Status status) = Unit {0}
IsRead got.Cut = Unit {0}
IsRead (got.Unreadable at) = Unit {0}
IsRead got.Lost = Unit {0}
IsRead got.NoMemory = ⊥

abbrev pub got_of : Item → Got
got_of (list x g) = g
got_of (piece x g level) = g

abbrev pub exchange_of : Item → Exchange
exchange_of (list x g) = x
exchange_of (piece x g level) = x

abbrev pub exchanges : List Item → List Exchange
exchanges items = map exchange_of items

-- each is made where the ones before it lead, and was read
abbrev pub Asks : {P : Type 0} → Meaning P → Plan → List ℕ → Turn P → State → List Item → Type 0
Asks m plan name t s [] = Unit {0}
Asks m plan name t s (x ∷ more) =
    Made m plan name t s x × IsRead (got_of x) × Asks m plan name (turn_by m t x) (state_by plan name s x) more

-- at most one more, which may have wanted memory
abbrev pub AsksLast : {P : Type 0} → Meaning P → Plan → List ℕ → Turn P → State → List Item → Type 0
AsksLast m plan name t s [] = Unit {0}
AsksLast m plan name t s (x ∷ []) = Made m plan name t s x
AsksLast m plan name t s (x ∷ y ∷ more) = ⊥
