-- Rounds of a standby, and how a call ends.
use Rattle.std.specs.Prelude.{◌≡◌, ◌<◌, ◌⊎◌, ℕ, List, [], ◌∷◌, ◌++◌, length, Option, None}
use Rattle.std.specs.List.{AllByRecursion}
use Rattle.sm_model.specs.declared.address.Address.{Address}
use Rattle.sm_model.specs.declared.entry.Entry.{Entry}
use Rattle.sm_model.specs.declared.fragment.Fragment.{Fragment}
use Rattle.sm_model.specs.declared.track.Track.{Track}
use Rattle.sm_log.specs.Adds.{names_of}
use Rattle.sm_site.specs.Meanings.{Seen}
use Rattle.sm_site.specs.Clauses.{Rose}
use Rattle.sm_archive.specs.declared.archive.Archive.{Archive}
use Rattle.sm_manin.specs.declared.listing.Listing.{Listing}
use Rattle.sm_fetch.specs.declared.dial.Exchange.{Exchange}
use Rattle.sm_fetch.specs.declared.got.Got.TheVariants as got
use Rattle.sm_fetch.specs.declared.place.Place.{Place}
use Rattle.sm_fetch.specs.Exchanges.{Peer}
use Rattle.sm_client.specs.Stands.{listed, times_of, miss_of}
use Rattle.sm_pull.specs.declared.plan.PullPlan.{PullPlan}
use Rattle.sm_pull.specs.Adds.{Adds, keeps_of}
use Rattle.sm_pull.specs.Asks.{Asks, AsksManifest, Gives, GivesNone, Tries}
use Rattle.sm_pull.specs.Tracks.{HasTracks, IsFirstMissing}
use Rattle.sm_standby.specs.declared.held.Later.{Later}
use Rattle.sm_standby.specs.declared.report.FollowEnd.{FollowEnd}
use Rattle.sm_standby.specs.declared.report.FollowEnd.TheVariants as ends
use Rattle.sm_standby.specs.Candidates.{addresses_by, candidates_by}
use Rattle.sm_standby.specs.Waiting.{due, AreOpen, IsLeast}
use Rattle.sm_standby.specs.Turns.{Turn, Standing, Turns, made_in, kept_in, IsUpstream, OnUpstream}
use Rattle.sm_standby.specs.Followed.{at, EndsTurns}

-- ---- one round

-- what a manifest leads to
abbrev pub addresses_of : List Track → Listing → List Address
addresses_of channel listing = addresses_by channel (candidates_by (λ name. times_of (listed name listing.streams)) (names_of channel))

-- the exchanges for the manifest, what was read, and the turns of its addresses
pub record Round : Type 0 where
  pub reads : List Exchange
  pub listing : Listing
  pub turns : List Turn

-- A manifest is read that has the tracks of the channel. Then each of its addresses has its turn, and nothing waits for the next place.
pub record IsRound (plan : PullPlan) (channel : List Track) (log : List Entry) (held : List Later) (r : Round) (log' : List Entry)
    (held' : List Later) : Type 0 where
  pub reads : Gives (AsksManifest plan.place) miss_of plan.tries r.reads (got.Manifest r.listing)
  pub tracks : HasTracks r.listing channel
  pub turns : Turns plan channel r.listing (at log held (addresses_of channel r.listing)) r.turns (at log' held' [])
  pub nothing : due (length log') held' ≡ None

-- these rounds lead from one log, and what waits, to another
abbrev pub AreRounds : PullPlan → List Track → List Entry → List Later → List Round → List Entry → List Later → Type 0
AreRounds plan channel log held [] log' held' = (log ≡ log') × (held ≡ held')
AreRounds plan channel log held (r ∷ rs) log' held' = (mid : List Entry) × (wait : List Later) × IsRound plan channel log held r mid wait
    × AreRounds plan channel mid wait rs log' held'

abbrev pub made_by : List Round → List Exchange
made_by [] = []
made_by (r ∷ rs) = (r.reads ++ made_in r.turns) ++ made_by rs

abbrev pub kept_by : List Round → List Fragment
kept_by [] = []
kept_by (r ∷ rs) = kept_in r.turns ++ kept_by rs

abbrev pub RoundsUpstream : Place → List Round → List Entry → Type 0
RoundsUpstream place rounds up = AllByRecursion (λ r. AllByRecursion (IsUpstream place r.listing up) r.turns) rounds

-- ---- a round that isn't ended

-- as a round; the last exchanges, for an address, and what was to be kept, as a turn that came to nothing
pub record Part : Type 0 where
  pub reads : List Exchange
  pub listing : Listing
  pub turns : List Turn
  pub last : List Exchange
  pub tried : List Turn

abbrev pub nothing_listed : Listing
nothing_listed = record { look = 0; streams = [] }

abbrev pub no_part : Part
no_part = record { reads = []; listing = nothing_listed; turns = []; last = []; tried = [] }

pub record IsBare (p : Part) : Type 0 where
  pub turns : p.turns ≡ []
  pub last : p.last ≡ []
  pub tried : p.tried ≡ []

abbrev pub made_of : Part → List Exchange
made_of p = p.reads ++ (made_in p.turns ++ p.last)

-- none of the tries gave a manifest
abbrev pub ReadsNone : PullPlan → List Exchange → FollowEnd → Type 0
ReadsNone plan reads (ends.NoManifest outcomes) = GivesNone (AsksManifest plan.place) miss_of plan.tries reads outcomes
ReadsNone plan reads ends.NoMemory = Tries (AsksManifest plan.place) plan.tries reads
ReadsNone plan reads ends.Done = ⊥
ReadsNone plan reads (ends.Gap place next) = ⊥
ReadsNone plan reads (ends.NoTrack index) = ⊥
ReadsNone plan reads (ends.GaveUp a outcomes) = ⊥
ReadsNone plan reads (ends.OtherId a id) = ⊥
ReadsNone plan reads (ends.Refused a cause) = ⊥
ReadsNone plan reads ends.Full = ⊥
ReadsNone plan reads ends.DiskFault = ⊥

-- the manifest that was read lacks a track
abbrev pub LacksTrack : Listing → List Track → FollowEnd → Type 0
LacksTrack listing channel (ends.NoTrack index) = IsFirstMissing listing channel index
LacksTrack listing channel ends.Done = ⊥
LacksTrack listing channel (ends.Gap place next) = ⊥
LacksTrack listing channel (ends.NoManifest outcomes) = ⊥
LacksTrack listing channel (ends.GaveUp a outcomes) = ⊥
LacksTrack listing channel (ends.OtherId a id) = ⊥
LacksTrack listing channel (ends.Refused a cause) = ⊥
LacksTrack listing channel ends.Full = ⊥
LacksTrack listing channel ends.DiskFault = ⊥
LacksTrack listing channel ends.NoMemory = ⊥

-- some of the turns were taken, and one ended the call
pub record TurnsEnd (plan : PullPlan) (channel : List Track) (log : List Entry) (held : List Later) (new : Archive) (p : Part) (to : Standing)
    (end : FollowEnd) : Type 0 where
  pub tracks : HasTracks p.listing channel
  pub turns : Turns plan channel p.listing (at log held (addresses_of channel p.listing)) p.turns to
  pub ended : EndsTurns plan channel p.listing to new p.last p.tried end

-- how a round ends the call, at a log and with what waits there
abbrev pub StopsRound : PullPlan → List Track → List Entry → List Later → Archive → Part → Standing → FollowEnd → Type 0
StopsRound plan channel log held new p to end =
    (ReadsNone plan p.reads end × IsBare p)
    ⊎ (Gives (AsksManifest plan.place) miss_of plan.tries p.reads (got.Manifest p.listing)
    × ((LacksTrack p.listing channel end × IsBare p) ⊎ TurnsEnd plan channel log held new p to end))

-- ---- calls

-- So many rounds ended.
pub record Rounds {D C : Type 0} (site : Seen D) (told : C → Option (List Exchange)) (store : C → List Entry → Type 0)
    (goes_on : C → C → Type 0) (faults : C → ℕ) (chosen : C → Option Peer) (disk disk' : D) (dial dial' : C) (plan : PullPlan) (channel : List Track)
    (old new : Archive) (before : List Entry) (held held' : List Later) (count : ℕ) : Type 0 where
  pub log : List Entry
  pub rounds : List Round
  pub legal : AreRounds plan channel before held rounds log held'
  pub count_is : length rounds ≡ count
  pub log_is : log ≡ before ++ keeps_of (kept_by rounds)
  pub asks : Asks told store goes_on faults chosen dial dial' (made_by rounds)
  pub up : OnUpstream (store dial) (store dial') (RoundsUpstream plan.place rounds)
  pub adds : Adds site disk disk' old new before (kept_by rounds) []
  pub waiting : AreOpen log held'

-- A round ended the call.
pub record RoundEnds {D C : Type 0} (site : Seen D) (told : C → Option (List Exchange)) (store : C → List Entry → Type 0)
    (goes_on : C → C → Type 0) (faults : C → ℕ) (chosen : C → Option Peer) (disk disk' : D) (dial dial' : C) (plan : PullPlan) (channel : List Track)
    (old new : Archive) (before : List Entry) (held : List Later) (end : FollowEnd) : Type 0 where
  pub part : Part
  pub to : Standing
  pub stops : StopsRound plan channel before held new part to end
  pub log_is : to.log ≡ before ++ keeps_of (kept_in part.turns)
  pub asks : Asks told store goes_on faults chosen dial dial' (made_of part)
  pub up : OnUpstream (store dial) (store dial') (λ up. AllByRecursion (IsUpstream plan.place part.listing up) (part.turns ++ part.tried))
  pub adds : Adds site disk disk' old new before (kept_in part.turns) (kept_in part.tried)
  pub fault : end ≡ ends.DiskFault → Rose (site.view disk).disk_faults (site.view disk').disk_faults

-- how a call ends, behind these rounds
abbrev pub EndsCall : PullPlan → List Track → List Round → List Entry → List Later → Archive → Part → Standing → FollowEnd → Type 0
EndsCall plan channel rounds log held new p to ends.Done = (length rounds ≡ plan.rounds) × (held ≡ []) × (p ≡ no_part)
EndsCall plan channel rounds log held new p to (ends.Gap place next) = (length rounds ≡ plan.rounds) × (place ≡ length log) × IsLeast held next × (p ≡ no_part)
EndsCall plan channel rounds log held new p to (ends.NoManifest outcomes) = (length rounds < plan.rounds) × StopsRound plan channel log held new p to
    (ends.NoManifest outcomes)
EndsCall plan channel rounds log held new p to (ends.NoTrack index) = (length rounds < plan.rounds) × StopsRound plan channel log held new p to
    (ends.NoTrack index)
EndsCall plan channel rounds log held new p to (ends.GaveUp a outcomes) = (length rounds < plan.rounds) × StopsRound plan channel log held new p to
    (ends.GaveUp a outcomes)
EndsCall plan channel rounds log held new p to (ends.OtherId a id) = (length rounds < plan.rounds) × StopsRound plan channel log held new p to
    (ends.OtherId a id)
EndsCall plan channel rounds log held new p to (ends.Refused a cause) = (length rounds < plan.rounds) × StopsRound plan channel log held new p to
    (ends.Refused a cause)
EndsCall plan channel rounds log held new p to ends.Full = (length rounds < plan.rounds) × StopsRound plan channel log held new p to ends.Full
EndsCall plan channel rounds log held new p to ends.DiskFault = (length rounds < plan.rounds) × StopsRound plan channel log held new p to ends.DiskFault
EndsCall plan channel rounds log held new p to ends.NoMemory = (length rounds < plan.rounds) × StopsRound plan channel log held new p to ends.NoMemory

-- A whole call, from this log on: some rounds ended, and perhaps a part of one more.
pub record Called {D C : Type 0} (site : Seen D) (told : C → Option (List Exchange)) (store : C → List Entry → Type 0)
    (goes_on : C → C → Type 0) (faults : C → ℕ) (chosen : C → Option Peer) (disk disk' : D) (dial dial' : C) (plan : PullPlan) (channel : List Track)
    (old new : Archive) (before : List Entry) (end : FollowEnd) : Type 0 where
  pub rounds : List Round
  pub log : List Entry
  pub held : List Later
  pub part : Part
  pub to : Standing
  pub legal : AreRounds plan channel before [] rounds log held
  pub ended : EndsCall plan channel rounds log held new part to end
  pub asks : Asks told store goes_on faults chosen dial dial' (made_by rounds ++ made_of part)
  pub up : OnUpstream (store dial) (store dial') (λ up. RoundsUpstream plan.place rounds up × AllByRecursion (IsUpstream plan.place part.listing up)
      (part.turns ++ part.tried))
  pub adds : Adds site disk disk' old new before (kept_by rounds ++ kept_in part.turns) (kept_in part.tried)
  pub fault : end ≡ ends.DiskFault → Rose (site.view disk).disk_faults (site.view disk').disk_faults
