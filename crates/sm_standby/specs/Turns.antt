-- What a follower does with one address after another: whose turn it is, what it asks, and what becomes of what it reads.
use Rattle.std.specs.Prelude.{◌≡◌, ◌≢◌, ◌<◌, ◌==◌, ◌||◌, ℕ, true, false, List, [], ◌∷◌, ◌++◌, length, Option, None, Some, is_some, if◌then◌else◌}
use Rattle.std.specs.List.{AllByRecursion}
use Rattle.sm_model.specs.declared.address.Address.{Address}
use Rattle.sm_model.specs.declared.entry.Entry.{Entry}
use Rattle.sm_model.specs.declared.fragment.Fragment.{Fragment}
use Rattle.sm_model.specs.declared.run.RawFragment.{RawFragment}
use Rattle.sm_model.specs.declared.track.Track.{Track}
use Rattle.sm_log.specs.Adds.{id_in}
use Rattle.sm_log.specs.Logs.{kept_at}
use Rattle.sm_manin.specs.declared.listing.Listing.{Listing}
use Rattle.sm_manin.specs.declared.listing.StreamListing.{StreamListing}
use Rattle.sm_fetch.specs.declared.dial.Exchange.{Exchange}
use Rattle.sm_fetch.specs.declared.place.Place.{Place}
use Rattle.sm_fetch.specs.declared.placed.Placed.{Placed}
use Rattle.sm_fetch.specs.declared.placed.Placed.TheVariants as placed
use Rattle.sm_fetch.specs.Placing.{SpellsPlaced, IsPlacedAt}
use Rattle.sm_fetch.specs.Requests.{fragment_request, fragment_limit}
use Rattle.sm_fetch.specs.Spelt.{given}
use Rattle.sm_client.specs.declared.report.Miss.{Miss}
use Rattle.sm_client.specs.declared.report.Miss.TheVariants as miss
use Rattle.sm_client.specs.Stands.{listed}
use Rattle.sm_pull.specs.declared.plan.PullPlan.{PullPlan}
use Rattle.sm_pull.specs.Adds.{keeps_of}
use Rattle.sm_pull.specs.Asks.{IsTry, Gives}
use Rattle.sm_standby.specs.declared.held.Later.{Later}
use Rattle.sm_standby.specs.Waiting.{due, without, waits}

-- ---- asking

-- for the fragment at an address with its place, by that Url
abbrev pub AsksPlaced : Place → List ℕ → Address → Exchange → Placed → Type 0
AsksPlaced place url address = IsTry (fragment_request place url address) fragment_limit (SpellsPlaced address.time)

-- what came in place of a fragment; that none is kept there is no miss
abbrev pub missed : Placed → Option Miss
missed (placed.Fragment number raw) = None
missed (placed.Status status) = if status == 404 then None else Some (miss.Status status)
missed placed.Cut = Some miss.Cut
missed (placed.Unreadable at) = Some (miss.Unreadable at)
missed placed.Lost = Some miss.Lost
missed placed.NoMemory = None

-- the Url of what is listed of a stream
abbrev pub url_in : Option StreamListing → List ℕ
url_in None = []
url_in (Some s) = s.pattern

abbrev pub url_of : Listing → Address → List ℕ
url_of listing a = url_in (listed a.stream listing.streams)

-- ---- one turn

-- An address that the manifest leads to, or one that waited.
pub data Whose : Type 0 where
  candidate : Address → Whose
  again : Later → Whose

-- Nothing is kept there by the primary. Or a fragment came, with its place in the primary's log: it was kept; it waits for its place;
-- or it was dropped.
pub data Came : Type 0 where
  absent : Came
  kept : ℕ → RawFragment → Came
  later : ℕ → RawFragment → Came
  dropped : ℕ → RawFragment → Came

-- A candidate that is kept or waits already is passed over. Or an address was asked for, by these exchanges.
pub data Turn : Type 0 where
  passed : Address → Turn
  asked : Whose → List Exchange → Came → Turn

-- the log, the addresses that wait, and the candidates whose turn has yet to come
pub record Standing : Type 0 where
  pub log : List Entry
  pub held : List Later
  pub rest : List Address

abbrev pub address_for : Whose → Address
address_for (candidate a) = a
address_for (again l) = l.address

abbrev pub placed_of : Came → Placed
placed_of absent = placed.Status 404
placed_of (kept n raw) = placed.Fragment n raw
placed_of (later n raw) = placed.Fragment n raw
placed_of (dropped n raw) = placed.Fragment n raw

abbrev pub IsFirst : Address → List Address → Type 0
IsFirst a rest = (more : List Address) × (rest ≡ a ∷ more)

-- What waits for the place that comes next goes first. Then comes the next candidate, if it is neither kept nor waits.
abbrev pub IsTurnOf : Standing → Whose → Type 0
IsTurnOf s (again l) = due (length s.log) s.held ≡ Some l
IsTurnOf s (candidate a) = (due (length s.log) s.held ≡ None) × IsFirst a s.rest × (kept_at s.log a ≡ None) × (waits a s.held ≡ false)

-- The fragment of the next place is kept. A candidate of a later one waits, and what has passed is dropped; what waited before doesn't
-- wait again.
abbrev pub FitsPlace : Whose → ℕ → Came → Type 0
FitsPlace who next absent = Unit {0}
FitsPlace who next (kept n raw) = n ≡ next
FitsPlace (candidate a) next (later n raw) = next < n
FitsPlace (again l) next (later n raw) = ⊥
FitsPlace (candidate a) next (dropped n raw) = n < next
FitsPlace (again l) next (dropped n raw) = n ≢ next

-- it came under the track_ID that its track has by its place in the channel
abbrev pub HasId : List Track → Address → Came → Type 0
HasId channel a absent = Unit {0}
HasId channel a (kept n raw) = raw.id ≡ id_in channel a
HasId channel a (later n raw) = raw.id ≡ id_in channel a
HasId channel a (dropped n raw) = raw.id ≡ id_in channel a

pub record IsAsked (plan : PullPlan) (channel : List Track) (listing : Listing) (s : Standing) (who : Whose) (made : List Exchange) (c : Came) : Type 0 where
  pub turn : IsTurnOf s who
  pub gives : Gives (AsksPlaced plan.place (url_of listing (address_for who)) (address_for who)) missed plan.tries made (placed_of c)
  pub id : HasId channel (address_for who) c
  pub fits : FitsPlace who (length s.log) c

pub record IsPassed (s : Standing) (a : Address) : Type 0 where
  pub nothing : due (length s.log) s.held ≡ None
  pub first : IsFirst a s.rest
  pub there : (is_some (kept_at s.log a) || waits a s.held) ≡ true

abbrev pub MayTurn : PullPlan → List Track → Listing → Standing → Turn → Type 0
MayTurn plan channel listing s (passed a) = IsPassed s a
MayTurn plan channel listing s (asked who made c) = IsAsked plan channel listing s who made c

-- ---- what a turn leaves

abbrev pub kept_by : Address → Came → List Fragment
kept_by a absent = []
kept_by a (kept n raw) = given a.stream a.bitrate raw ∷ []
kept_by a (later n raw) = []
kept_by a (dropped n raw) = []

abbrev pub waits_by : Address → Came → List Later
waits_by a absent = []
waits_by a (kept n raw) = []
waits_by a (later n raw) = (record { place = n; address = a }) ∷ []
waits_by a (dropped n raw) = []

abbrev pub behind : List Address → List Address
behind [] = []
behind (a ∷ more) = more

abbrev pub after : Standing → Turn → Standing
after s (passed a) = record { log = s.log; held = s.held; rest = behind s.rest }
after s (asked (candidate a) made c) = record { log = s.log ++ keeps_of (kept_by a c); held = s.held ++ waits_by a c; rest = behind s.rest }
after s (asked (again l) made c) = record { log = s.log ++ keeps_of (kept_by l.address c); held = without (length s.log) s.held; rest = s.rest }

-- ---- many turns

-- these turns lead from here to there
abbrev pub Turns : PullPlan → List Track → Listing → Standing → List Turn → Standing → Type 0
Turns plan channel listing s [] end = s ≡ end
Turns plan channel listing s (t ∷ ts) end = MayTurn plan channel listing s t × Turns plan channel listing (after s t) ts end

abbrev pub made_by : Turn → List Exchange
made_by (passed a) = []
made_by (asked who made c) = made

abbrev pub made_in : List Turn → List Exchange
made_in [] = []
made_in (t ∷ ts) = made_by t ++ made_in ts

abbrev pub kept_of : Turn → List Fragment
kept_of (passed a) = []
kept_of (asked who made c) = kept_by (address_for who) c

abbrev pub kept_in : List Turn → List Fragment
kept_in [] = []
kept_in (t ∷ ts) = kept_of t ++ kept_in ts

-- ---- what the primary has of it

-- what was kept is what this log has at its place, at the address that the target names
abbrev pub IsUpstream : Place → Listing → List Entry → Turn → Type 0
IsUpstream place listing up (passed a) = Unit {0}
IsUpstream place listing up (asked who made absent) = Unit {0}
IsUpstream place listing up (asked who made (kept n raw)) = IsPlacedAt place (url_of listing (address_for who)) (address_for who) up (placed.Fragment n raw)
IsUpstream place listing up (asked who made (later n raw)) = Unit {0}
IsUpstream place listing up (asked who made (dropped n raw)) = Unit {0}

-- for each log that is told before, one is told now that goes on from it, of which this holds
abbrev pub OnUpstream : (List Entry → Type 0) → (List Entry → Type 0) → (List Entry → Type 0) → Type 0
OnUpstream old now P = (up : List Entry) → old up → (more : List Entry) × now (up ++ more) × P (up ++ more)

-- and has all that was kept
abbrev pub AreUpstream : Place → Listing → (List Entry → Type 0) → (List Entry → Type 0) → List Turn → Type 0
AreUpstream place listing old now turns = OnUpstream old now (λ up. AllByRecursion (IsUpstream place listing up) turns)
