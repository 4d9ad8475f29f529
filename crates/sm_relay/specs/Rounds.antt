-- Rounds of a relay, and how a last one breaks off.
use Rattle.std.specs.Prelude.{◌≡◌, ◌⊎◌, ℕ, List, [], ◌∷◌, ◌++◌, Option}
use Rattle.std.specs.List.{flat_map}
use Rattle.sm_model.specs.declared.entry.Entry.{Entry}
use Rattle.sm_model.specs.declared.fragment.Fragment.{Fragment}
use Rattle.sm_model.specs.declared.track.Track.{Track}
use Rattle.sm_manin.specs.declared.listing.Listing.{Listing}
use Rattle.sm_site.specs.Meanings.{Seen}
use Rattle.sm_archive.specs.declared.archive.Archive.{Archive}
use Rattle.sm_fetch.specs.declared.dial.Exchange.{Exchange}
use Rattle.sm_fetch.specs.declared.got.Got.TheVariants as got
use Rattle.sm_fetch.specs.Exchanges.{Peer}
use Rattle.sm_client.specs.declared.report.Miss.{Miss}
use Rattle.sm_client.specs.Stands.{miss_of}
use Rattle.sm_pull.specs.declared.plan.PullPlan.{PullPlan}
use Rattle.sm_pull.specs.declared.stop.Stop.{Stop}
use Rattle.sm_pull.specs.declared.stop.Stop.TheVariants as stop
use Rattle.sm_pull.specs.Asks.{Asks, AsksManifest, Gives, GivesNone, Tries}
use Rattle.sm_pull.specs.Adds.{keeps_of, Adds}
use Rattle.sm_pull.specs.Tracks.{HasTracks, IsFirstMissing}
use Rattle.sm_relay.specs.Wants.{wants_of}
use Rattle.sm_relay.specs.Pulls.{Walks, Breaks}

-- ---- a round that ended

-- the manifest that was read, the exchanges for it and then those for fragments, and what was kept
pub record Round : Type 0 where
  pub listing : Listing
  pub asked : List Exchange
  pub pulled : List Exchange
  pub kept : List Fragment

-- the manifest has each track of the channel, and of what it lists of them each is kept
pub record IsRound (plan : PullPlan) (channel : List Track) (log : List Entry) (r : Round) : Type 0 where
  pub read : Gives (AsksManifest plan.place) miss_of plan.tries r.asked (got.Manifest r.listing)
  pub tracks : HasTracks r.listing channel
  pub walks : Walks plan log (wants_of channel r.listing) r.pulled r.kept

abbrev pub AreRounds : PullPlan → List Track → List Entry → List Round → Type 0
AreRounds plan channel log [] = Unit {0}
AreRounds plan channel log (r ∷ rs) = IsRound plan channel log r × AreRounds plan channel (log ++ keeps_of r.kept) rs

abbrev pub made_in : List Round → List Exchange
made_in rs = flat_map (λ r. r.asked ++ r.pulled) rs

abbrev pub kept_in : List Round → List Fragment
kept_in rs = flat_map (λ r. r.kept) rs

-- ---- one that broke off

-- none of the tries gave a manifest
pub record IsNoManifest (plan : PullPlan) (made : List Exchange) (added tried : List Fragment) (outcomes : List Miss) : Type 0 where
  pub missed : GivesNone (AsksManifest plan.place) miss_of plan.tries made outcomes
  pub added_is : added ≡ []
  pub tried_is : tried ≡ []

-- the manifest that was read lacks the track at this place, and has those before it
pub record IsNoTrack (plan : PullPlan) (channel : List Track) (made : List Exchange) (added tried : List Fragment) (index : ℕ) : Type 0 where
  pub listing : Listing
  pub read : Gives (AsksManifest plan.place) miss_of plan.tries made (got.Manifest listing)
  pub lacks : IsFirstMissing listing channel index
  pub added_is : added ≡ []
  pub tried_is : tried ≡ []

-- a manifest was read that has each track, and at an address that it lists the round broke off
pub record IsBroken (plan : PullPlan) (channel : List Track) (new : Archive) (log : List Entry) (made : List Exchange) (added tried : List Fragment)
    (why : Stop) : Type 0 where
  pub listing : Listing
  pub asked : List Exchange
  pub read : Gives (AsksManifest plan.place) miss_of plan.tries asked (got.Manifest listing)
  pub tracks : HasTracks listing channel
  pub pulled : List Exchange
  pub breaks : Breaks plan new log (wants_of channel listing) pulled added tried why
  pub made_is : made ≡ asked ++ pulled

-- memory was wanting before a manifest was read
pub record IsUnread (plan : PullPlan) (made : List Exchange) (added tried : List Fragment) : Type 0 where
  pub tries : Tries (AsksManifest plan.place) plan.tries made
  pub added_is : added ≡ []
  pub tried_is : tried ≡ []

abbrev pub RoundStops : PullPlan → List Track → Archive → List Entry → List Exchange → List Fragment → List Fragment → Stop → Type 0
RoundStops plan channel new log made added tried (stop.NoManifest outcomes) = IsNoManifest plan made added tried outcomes
RoundStops plan channel new log made added tried (stop.NoTrack index) = IsNoTrack plan channel made added tried index
RoundStops plan channel new log made added tried (stop.GaveUp address outcomes) = IsBroken plan channel new log made added tried (stop.GaveUp address outcomes)
RoundStops plan channel new log made added tried (stop.Refused address cause) = IsBroken plan channel new log made added tried (stop.Refused address cause)
RoundStops plan channel new log made added tried stop.Full = IsBroken plan channel new log made added tried stop.Full
RoundStops plan channel new log made added tried stop.DiskFault = IsBroken plan channel new log made added tried stop.DiskFault
RoundStops plan channel new log made added tried stop.NoMemory =
    IsUnread plan made added tried ⊎ IsBroken plan channel new log made added tried stop.NoMemory

-- ---- calls

-- a round ended
pub record RunsRound {D C : Type 0} (site : Seen D) (told : C → Option (List Exchange)) (store : C → List Entry → Type 0)
    (later : C → C → Type 0) (faults : C → ℕ) (chosen : C → Option Peer) (plan : PullPlan) (channel : List Track) (disk disk' : D)
    (dial dial' : C) (old new : Archive) (log : List Entry) : Type 0 where
  pub round : Round
  pub is : IsRound plan channel log round
  pub asks : Asks told store later faults chosen dial dial' (round.asked ++ round.pulled)
  pub adds : Adds site disk disk' old new log round.kept []

-- it broke off
pub record BreaksRound {D C : Type 0} (site : Seen D) (told : C → Option (List Exchange)) (store : C → List Entry → Type 0)
    (later : C → C → Type 0) (faults : C → ℕ) (chosen : C → Option Peer) (plan : PullPlan) (channel : List Track) (disk disk' : D)
    (dial dial' : C) (old new : Archive) (log : List Entry) (why : Stop) : Type 0 where
  pub made : List Exchange
  pub added : List Fragment
  pub tried : List Fragment
  pub asks : Asks told store later faults chosen dial dial' made
  pub adds : Adds site disk disk' old new log added tried
  pub stops : RoundStops plan channel new log made added tried why
