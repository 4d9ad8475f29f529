-- What `relay` and `standby` answer.
use Rattle.std.specs.Prelude.{◌≡◌, ◌⊎◌, ◌++◌, ℕ, true, List, Option, None, Some, codes, decimal, slice_get}
use Rattle.sm_model.specs.declared.address.Address.{Address}
use Rattle.sm_model.specs.declared.entry.Entry.{Entry}
use Rattle.sm_model.specs.declared.track.Track.{Track}
use Rattle.sm_site.specs.Meanings.{Chosen, Seen}
use Rattle.sm_fetch.specs.declared.dial.Exchange.{Exchange}
use Rattle.sm_fetch.specs.Exchanges.{Peer}
use Rattle.sm_command.specs.declared.fault.StoreFault.{StoreFault}
use Rattle.sm_pull.specs.declared.plan.PullPlan.{PullPlan}
use Rattle.sm_relay.specs.declared.report.RelayReport.{RelayReport}
use Rattle.sm_relay.specs.declared.report.RelayEnd.{RelayEnd}
use Rattle.sm_relay.specs.declared.report.RelayEnd.TheVariants as relayed
use Rattle.sm_standby.specs.declared.report.FollowReport.{FollowReport}
use Rattle.sm_standby.specs.declared.report.FollowEnd.{FollowEnd}
use Rattle.sm_standby.specs.declared.report.FollowEnd.TheVariants as followed
use Rattle.sm_edge.specs.Opening.{WhyNoEdge}
use Rattle.sm_edge.specs.Relaying.{HasRelayed}
use Rattle.sm_edge.specs.Following.{HasFollowed}
use Rattle.sm_words.specs.Words.{Pulling}
use Rattle.sm_tool.specs.declared.answer.Answer.{Answer}
use Rattle.sm_tool.specs.declared.answer.Answer.TheVariants.{Found, Undone, DiskFault, Starved, Full}
use Rattle.sm_tool.specs.Misses.{gave_up_line, no_manifest_line}
use Rattle.sm_tool.specs.Stores.{Tells, clash_line}
use Rattle.sm_ends.specs.Ended.{End}

-- what a dial tells of itself, and which dial is a later one
pub record Dialing (C : Type 0) : Type 1 where
  pub log : C → Option (List Exchange)
  pub store : C → List Entry → Type 0
  pub later : C → C → Type 0
  pub faults : C → ℕ
  pub chosen : C → Option Peer

abbrev pub dialing : {C : Type 0} → (C → Option (List Exchange)) → (C → List Entry → Type 0) → (C → C → Type 0)
    → (C → ℕ) → (C → Option Peer) → Dialing C
dialing log store later faults chosen = record { log = log; store = store; later = later; faults = faults; chosen = chosen }

-- the folder of the words, which is made where it isn't there, and no port; what is pulled is told in their journal
abbrev pub at_edge : Pulling → Chosen
at_edge e = record { store = e.store; make = true; port = 0; bind = None; journal = e.journal }

abbrev pub plan_of : Pulling → PullPlan
plan_of e = record { place = e.place; rounds = e.rounds; tries = e.tries }

-- ---- the lines

abbrev pub relayed_line : ℕ → List ℕ
relayed_line kept = codes "relayed " ++ (decimal kept ++ codes "\n")

abbrev pub followed_line : ℕ → List ℕ
followed_line kept = codes "followed " ++ (decimal kept ++ codes "\n")

-- the track of the channel that the origin doesn't have
abbrev pub no_track_line : Option Track → List ℕ
no_track_line None = codes "error: NoTrack\nThe ladder has no such track.\n"
no_track_line (Some t) = codes "error: NoTrack " ++ (t.name
    ++ (codes " " ++ (decimal t.bitrate
    ++ codes "\nThe ladder has a track of this name and bitrate, and the origin lists none, or one with another timescale.\n")))

-- the place that comes next, and the least one that waits
abbrev pub gap_line : ℕ → ℕ → List ℕ
gap_line place next = codes "error: Gap " ++ (decimal place
    ++ (codes " " ++ (decimal next
    ++ codes "\nThe primary lists nothing for the first of these places of its log, and something for the second.\n")))

abbrev pub other_id_line : Address → ℕ → List ℕ
other_id_line a id =
    codes "error: OtherId " ++ (a.stream ++ (codes " " ++ (decimal a.bitrate ++ (codes " " ++ (decimal id
    ++ codes "\nThe primary gives fragments of this name and bitrate a track_ID that is not the ladder's.\n")))))

-- ---- relay

-- how the end of a relay is told: how many fragments were kept, where as many rounds as were wanted ended, and else why not
abbrev pub TellsRelayEnd : List Track → ℕ → RelayEnd → Answer → Type 0
TellsRelayEnd channel kept relayed.Done answer = answer ≡ Found (relayed_line kept)
TellsRelayEnd channel kept (relayed.NoManifest outcomes) answer = answer ≡ Undone (no_manifest_line outcomes)
TellsRelayEnd channel kept (relayed.NoTrack index) answer = answer ≡ Undone (no_track_line (slice_get channel index))
TellsRelayEnd channel kept (relayed.GaveUp address outcomes) answer = answer ≡ Undone (gave_up_line address.time outcomes)
TellsRelayEnd channel kept (relayed.Refused address cause) answer = answer ≡ Undone (clash_line cause)
TellsRelayEnd channel kept relayed.Full answer = answer ≡ Full
TellsRelayEnd channel kept relayed.DiskFault answer = answer ≡ DiskFault
TellsRelayEnd channel kept relayed.NoMemory answer = answer ≡ Starved

abbrev pub TellsRelay : List Track → RelayReport → Answer → Type 0
TellsRelay channel report answer = TellsRelayEnd channel report.kept report.end answer

-- its line wants memory
abbrev pub HasRelayLine : RelayEnd → Type 0
HasRelayLine relayed.Done = Unit {0}
HasRelayLine (relayed.NoManifest outcomes) = Unit {0}
HasRelayLine (relayed.NoTrack index) = Unit {0}
HasRelayLine (relayed.GaveUp address outcomes) = Unit {0}
HasRelayLine (relayed.Refused address cause) = Unit {0}
HasRelayLine relayed.Full = ⊥
HasRelayLine relayed.DiskFault = ⊥
HasRelayLine relayed.NoMemory = ⊥

-- ---- standby

-- how the end of a standby is told: how many fragments were kept, where as many rounds as were wanted ended and nothing waits, and else why
-- not
abbrev pub TellsFollowEnd : List Track → ℕ → FollowEnd → Answer → Type 0
TellsFollowEnd channel kept followed.Done answer = answer ≡ Found (followed_line kept)
TellsFollowEnd channel kept (followed.Gap place next) answer = answer ≡ Undone (gap_line place next)
TellsFollowEnd channel kept (followed.NoManifest outcomes) answer = answer ≡ Undone (no_manifest_line outcomes)
TellsFollowEnd channel kept (followed.NoTrack index) answer = answer ≡ Undone (no_track_line (slice_get channel index))
TellsFollowEnd channel kept (followed.GaveUp address outcomes) answer = answer ≡ Undone (gave_up_line address.time outcomes)
TellsFollowEnd channel kept (followed.OtherId address id) answer = answer ≡ Undone (other_id_line address id)
TellsFollowEnd channel kept (followed.Refused address cause) answer = answer ≡ Undone (clash_line cause)
TellsFollowEnd channel kept followed.Full answer = answer ≡ Full
TellsFollowEnd channel kept followed.DiskFault answer = answer ≡ DiskFault
TellsFollowEnd channel kept followed.NoMemory answer = answer ≡ Starved

abbrev pub TellsFollow : List Track → FollowReport → Answer → Type 0
TellsFollow channel report answer = TellsFollowEnd channel report.kept report.end answer

-- its line wants memory
abbrev pub HasFollowLine : FollowEnd → Type 0
HasFollowLine followed.Done = Unit {0}
HasFollowLine (followed.Gap place next) = Unit {0}
HasFollowLine (followed.NoManifest outcomes) = Unit {0}
HasFollowLine (followed.NoTrack index) = Unit {0}
HasFollowLine (followed.GaveUp address outcomes) = Unit {0}
HasFollowLine (followed.OtherId address id) = Unit {0}
HasFollowLine (followed.Refused address cause) = Unit {0}
HasFollowLine followed.Full = ⊥
HasFollowLine followed.DiskFault = ⊥
HasFollowLine followed.NoMemory = ⊥

-- ---- both

-- no store was opened, nothing was asked for, and why is told, but for want of memory
abbrev pub IsUnpulled : {D C : Type 0} → Seen D → Dialing C → Pulling → End → End → D → D → C → C → Answer
    → Type 0
IsUnpulled site t e input input' d d' c c' answer =
    (why : StoreFault) × WhyNoEdge site input input' (t.faults c) (t.faults c') (at_edge e) d d' why × (t.log c' ≡ t.log c)
    × (Tells why answer ⊎ (answer ≡ Starved))

-- a relay pulled into the store, and how it ended is told, but for want of memory for the line; or no store was opened
abbrev pub RelayMeans : {D C : Type 0} → Seen D → Dialing C → Pulling → End → End → D
    → D → C → C → Answer → Type 0
RelayMeans site t e input input' d d' c c' answer =
    ((channel : List Track) × (report : RelayReport)
    × HasRelayed site t.log t.store t.later t.faults t.chosen input input' (at_edge e)
    e.place.host (plan_of e) d d' c c' channel report
    × (TellsRelay channel report answer ⊎ ((answer ≡ Starved) × HasRelayLine report.end)))
    ⊎ IsUnpulled site t e input input' d d' c c' answer

-- the log of a primary was rebuilt in the store, and how that ended is told, but for want of memory for the line; or no store was opened
abbrev pub StandbyMeans : {D C : Type 0} → Seen D → Dialing C → Pulling → End → End
    → D → D → C → C → Answer
    → Type 0
StandbyMeans site t e input input' d d' c c' answer =
    ((channel : List Track) × (report : FollowReport)
    × HasFollowed site t.log t.store t.later t.faults t.chosen input input' (at_edge e)
    e.place.host (plan_of e) d d' c c' channel report
    × (TellsFollow channel report answer ⊎ ((answer ≡ Starved) × HasFollowLine report.end)))
    ⊎ IsUnpulled site t e input input' d d' c c' answer
