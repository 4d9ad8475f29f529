-- What asking for one address gives, and what becomes of it.
use Rattle.std.specs.Prelude.{◌≡◌, ◌≢◌, ◌<◌, ◌⊎◌, ℕ, List, [], ◌∷◌, length, Option}
use Rattle.sm_model.specs.declared.address.Address.{Address}
use Rattle.sm_model.specs.declared.entry.Entry.{Entry}
use Rattle.sm_model.specs.declared.fragment.Fragment.{Fragment}
use Rattle.sm_model.specs.declared.run.RawFragment.{RawFragment}
use Rattle.sm_model.specs.declared.track.Track.{Track}
use Rattle.sm_model.specs.Fragments.{IsValid}
use Rattle.sm_log.specs.Adds.{id_in}
use Rattle.sm_site.specs.Meanings.{Seen}
use Rattle.sm_archive.specs.declared.archive.Archive.{Archive}
use Rattle.sm_fetch.specs.declared.dial.Exchange.{Exchange}
use Rattle.sm_fetch.specs.declared.place.Place.{Place}
use Rattle.sm_fetch.specs.declared.placed.Placed.{Placed}
use Rattle.sm_fetch.specs.declared.placed.Placed.TheVariants as placed
use Rattle.sm_fetch.specs.Exchanges.{Peer}
use Rattle.sm_fetch.specs.Placing.{IsPlacedAt}
use Rattle.sm_fetch.specs.Spelt.{given}
use Rattle.sm_pull.specs.declared.plan.PullPlan.{PullPlan}
use Rattle.sm_pull.specs.declared.stop.Stop.{Stop}
use Rattle.sm_pull.specs.declared.stop.Stop.TheVariants as stop
use Rattle.sm_pull.specs.Adds.{Adds, NotKept}
use Rattle.sm_pull.specs.Asks.{Asks, Gives, GivesNone, Tries}
use Rattle.sm_standby.specs.declared.asking.Found.{Found}
use Rattle.sm_standby.specs.declared.asking.Found.TheVariants as found
use Rattle.sm_standby.specs.declared.placing.Step.{Step}
use Rattle.sm_standby.specs.declared.placing.Step.TheVariants as step
use Rattle.sm_standby.specs.declared.report.FollowEnd.{FollowEnd}
use Rattle.sm_standby.specs.declared.report.FollowEnd.TheVariants as ends
use Rattle.sm_standby.specs.Turns.{AsksPlaced, missed, Came, absent, kept, later, dropped, placed_of, HasId, kept_by, OnUpstream}

-- ---- what all tries give

-- a fragment that was read, under its number
pub record IsRead (place : Place) (tries : ℕ) (url : List ℕ) (a : Address) (made : List Exchange) (store store' : List Entry → Type 0) (n : ℕ)
    (raw : RawFragment) : Type 0 where
  pub gives : Gives (AsksPlaced place url a) missed tries made (placed.Fragment n raw)
  pub valid : IsValid (given [] 0 raw)
  pub time_is : raw.time ≡ a.time
  pub up : OnUpstream store store' (λ up. IsPlacedAt place url a up (placed.Fragment n raw))

-- what is no miss
abbrev pub found_of : Placed → Found
found_of (placed.Fragment n raw) = found.At n raw
found_of (placed.Status status) = found.Absent
found_of placed.Cut = found.NoMemory
found_of (placed.Unreadable at) = found.NoMemory
found_of placed.Lost = found.NoMemory
found_of placed.NoMemory = found.NoMemory

abbrev pub Finds : Place → ℕ → List ℕ → Address → List Exchange → (List Entry → Type 0) → (List Entry → Type 0) → Found → Type 0
Finds place tries url a made store store' (found.At n raw) = IsRead place tries url a made store store' n raw
Finds place tries url a made store store' found.Absent = Gives (AsksPlaced place url a) missed tries made (placed.Status 404)
Finds place tries url a made store store' (found.GaveUp outcomes) = GivesNone (AsksPlaced place url a) missed tries made outcomes
Finds place tries url a made store store' found.NoMemory = Tries (AsksPlaced place url a) tries made

-- ---- what becomes of it

-- a place that comes next, later, or has passed
abbrev pub IsStep : ℕ → Address → Came → Step → Type 0
IsStep next a absent step.Passed = Unit {0}
IsStep next a (kept n raw) step.Kept = n ≡ next
IsStep next a (later n raw) (step.Later m b) = (next < n) × (m ≡ n) × (b ≡ a)
IsStep next a (dropped n raw) step.Passed = n < next
IsStep next a absent step.Kept = ⊥
IsStep next a absent (step.Later m b) = ⊥
IsStep next a (kept n raw) (step.Later m b) = ⊥
IsStep next a (kept n raw) step.Passed = ⊥
IsStep next a (later n raw) step.Kept = ⊥
IsStep next a (later n raw) step.Passed = ⊥
IsStep next a (dropped n raw) step.Kept = ⊥
IsStep next a (dropped n raw) (step.Later m b) = ⊥

-- A fragment that was read under this number was put in its place.
pub record IsPut {D : Type 0} (site : Seen D) (disk disk' : D) (channel : List Track) (a : Address) (old new : Archive) (log : List Entry)
    (n : ℕ) (raw : RawFragment) (s : Step) : Type 0 where
  pub came : Came
  pub came_is : placed_of came ≡ placed.Fragment n raw
  pub id : HasId channel a came
  pub step : IsStep (length log) a came s
  pub adds : Adds site disk disk' old new log (kept_by a came) []

abbrev pub CameUpstream : Place → List ℕ → Address → Came → List Entry → Type 0
CameUpstream place url a absent up = Unit {0}
CameUpstream place url a (kept n raw) up = IsPlacedAt place url a up (placed.Fragment n raw)
CameUpstream place url a (later n raw) up = Unit {0}
CameUpstream place url a (dropped n raw) up = Unit {0}

-- An address was asked for, and this became of what came.
pub record Went {D C : Type 0} (site : Seen D) (told : C → Option (List Exchange)) (store : C → List Entry → Type 0)
    (goes_on : C → C → Type 0) (faults : C → ℕ) (chosen : C → Option Peer) (disk disk' : D) (dial dial' : C) (plan : PullPlan) (channel : List Track)
    (url : List ℕ) (a : Address) (old new : Archive) (log : List Entry) (s : Step) : Type 0 where
  pub made : List Exchange
  pub came : Came
  pub gives : Gives (AsksPlaced plan.place url a) missed plan.tries made (placed_of came)
  pub id : HasId channel a came
  pub step : IsStep (length log) a came s
  pub asks : Asks told store goes_on faults chosen dial dial' made
  pub up : OnUpstream (store dial) (store dial') (CameUpstream plan.place url a came)
  pub adds : Adds site disk disk' old new log (kept_by a came) []

-- ---- what stops

-- what was to be kept, if anything
abbrev pub tried_by : Address → List Came → List Fragment
tried_by a [] = []
tried_by a (c ∷ cs) = kept_by a c

abbrev pub TriedUpstream : Place → List ℕ → Address → List Came → List Entry → Type 0
TriedUpstream place url a [] up = Unit {0}
TriedUpstream place url a (c ∷ cs) up = CameUpstream place url a c up

-- the fragment of the next place came, and wasn't kept for this cause
pub record IsTried (plan : PullPlan) (channel : List Track) (url : List ℕ) (a : Address) (new : Archive) (log : List Entry) (made : List Exchange)
    (tried : List Came) (why : Stop) : Type 0 where
  pub number : ℕ
  pub raw : RawFragment
  pub tried_is : tried ≡ kept number raw ∷ []
  pub next : number ≡ length log
  pub gives : Gives (AsksPlaced plan.place url a) missed plan.tries made (placed.Fragment number raw)
  pub id : raw.id ≡ id_in channel a
  pub not : NotKept new log (given a.stream a.bitrate raw) a why

-- a fragment came under another track_ID
pub record IsOther (plan : PullPlan) (channel : List Track) (url : List ℕ) (a : Address) (made : List Exchange) (id : ℕ) : Type 0 where
  pub number : ℕ
  pub raw : RawFragment
  pub gives : Gives (AsksPlaced plan.place url a) missed plan.tries made (placed.Fragment number raw)
  pub id_is : raw.id ≡ id
  pub other : id ≢ id_in channel a

-- how what was read under this number ends the call
pub record IsUnkept (channel : List Track) (a : Address) (new : Archive) (log : List Entry) (n : ℕ) (raw : RawFragment)
    (tried : List Came) (why : Stop) : Type 0 where
  pub tried_is : tried ≡ kept n raw ∷ []
  pub next : n ≡ length log
  pub id : raw.id ≡ id_in channel a
  pub not : NotKept new log (given a.stream a.bitrate raw) a why

abbrev pub UnputBy : List Track → Address → Archive → List Entry → ℕ → RawFragment → List Came → FollowEnd → Type 0
UnputBy channel a new log n raw tried (ends.OtherId b id) = (b ≡ a) × (raw.id ≡ id) × (id ≢ id_in channel a) × (tried ≡ [])
UnputBy channel a new log n raw tried (ends.Refused b cause) = IsUnkept channel a new log n raw tried (stop.Refused b cause)
UnputBy channel a new log n raw tried ends.Full = IsUnkept channel a new log n raw tried stop.Full
UnputBy channel a new log n raw tried ends.DiskFault = IsUnkept channel a new log n raw tried stop.DiskFault
UnputBy channel a new log n raw tried ends.NoMemory = (tried ≡ []) ⊎ IsUnkept channel a new log n raw tried stop.NoMemory
UnputBy channel a new log n raw tried (ends.GaveUp b outcomes) = ⊥
UnputBy channel a new log n raw tried ends.Done = ⊥
UnputBy channel a new log n raw tried (ends.Gap place next) = ⊥
UnputBy channel a new log n raw tried (ends.NoManifest outcomes) = ⊥
UnputBy channel a new log n raw tried (ends.NoTrack index) = ⊥

pub record IsUnput {D : Type 0} (site : Seen D) (disk disk' : D) (channel : List Track) (a : Address) (old new : Archive) (log : List Entry)
    (n : ℕ) (raw : RawFragment) (end : FollowEnd) : Type 0 where
  pub tried : List Came
  pub by : UnputBy channel a new log n raw tried end
  pub adds : Adds site disk disk' old new log [] (tried_by a tried)

-- the exchanges for an address, and how they end the call
abbrev pub StopsAt : PullPlan → List Track → List ℕ → Address → Archive → List Entry → List Exchange → List Came → FollowEnd → Type 0
StopsAt plan channel url a new log made tried (ends.GaveUp b outcomes) = (b ≡ a) × GivesNone
    (AsksPlaced plan.place url a) missed plan.tries made outcomes × (tried ≡ [])
StopsAt plan channel url a new log made tried (ends.OtherId b id) = (b ≡ a) × IsOther plan channel url a made id × (tried ≡ [])
StopsAt plan channel url a new log made tried (ends.Refused b cause) = IsTried plan channel url a new log made tried (stop.Refused b cause)
StopsAt plan channel url a new log made tried ends.Full = IsTried plan channel url a new log made tried stop.Full
StopsAt plan channel url a new log made tried ends.DiskFault = IsTried plan channel url a new log made tried stop.DiskFault
StopsAt plan channel url a new log made tried ends.NoMemory =
    (Tries (AsksPlaced plan.place url a) plan.tries made × (tried ≡ [])) ⊎ IsTried plan channel url a new log made tried stop.NoMemory
StopsAt plan channel url a new log made tried ends.Done = ⊥
StopsAt plan channel url a new log made tried (ends.Gap place next) = ⊥
StopsAt plan channel url a new log made tried (ends.NoManifest outcomes) = ⊥
StopsAt plan channel url a new log made tried (ends.NoTrack index) = ⊥

pub record Stopped {D C : Type 0} (site : Seen D) (told : C → Option (List Exchange)) (store : C → List Entry → Type 0)
    (goes_on : C → C → Type 0) (faults : C → ℕ) (chosen : C → Option Peer) (disk disk' : D) (dial dial' : C) (plan : PullPlan) (channel : List Track)
    (url : List ℕ) (a : Address) (old new : Archive) (log : List Entry) (end : FollowEnd) : Type 0 where
  pub made : List Exchange
  pub tried : List Came
  pub stops : StopsAt plan channel url a new log made tried end
  pub asks : Asks told store goes_on faults chosen dial dial' made
  pub up : OnUpstream (store dial) (store dial') (TriedUpstream plan.place url a tried)
  pub adds : Adds site disk disk' old new log [] (tried_by a tried)
