-- How a relay ends.
use Rattle.std.specs.Prelude.{◌≡◌, ◌<◌, ℕ, List, [], ◌++◌, length, Option, IsSome}
use Rattle.std.specs.List.{AllByRecursion}
use Rattle.sm_model.specs.declared.entry.Entry.{Entry}
use Rattle.sm_model.specs.declared.fragment.Fragment.{Fragment}
use Rattle.sm_model.specs.declared.track.Track.{Track}
use Rattle.sm_log.specs.Logs.{kept_at}
use Rattle.sm_site.specs.Meanings.{Seen}
use Rattle.sm_archive.specs.declared.archive.Archive.{Archive}
use Rattle.sm_fetch.specs.declared.dial.Exchange.{Exchange}
use Rattle.sm_fetch.specs.Exchanges.{Peer}
use Rattle.sm_pull.specs.declared.plan.PullPlan.{PullPlan}
use Rattle.sm_pull.specs.declared.stop.Stop.{Stop}
use Rattle.sm_pull.specs.declared.stop.Stop.TheVariants as stop
use Rattle.sm_pull.specs.Asks.{Asks}
use Rattle.sm_pull.specs.Adds.{keeps_of, Adds}
use Rattle.sm_relay.specs.declared.report.RelayEnd.{RelayEnd}
use Rattle.sm_relay.specs.declared.report.RelayEnd.TheVariants as ends
use Rattle.sm_relay.specs.Wants.{wants_of}
use Rattle.sm_relay.specs.Rounds.{Round, AreRounds, made_in, kept_in, RoundStops}

abbrev pub end_of : Stop → RelayEnd
end_of (stop.NoManifest outcomes) = ends.NoManifest outcomes
end_of (stop.NoTrack index) = ends.NoTrack index
end_of (stop.GaveUp address outcomes) = ends.GaveUp address outcomes
end_of (stop.Refused address cause) = ends.Refused address cause
end_of stop.Full = ends.Full
end_of stop.DiskFault = ends.DiskFault
end_of stop.NoMemory = ends.NoMemory

-- ---- rounds

-- so many rounds ended
pub record Ran {D C : Type 0} (site : Seen D) (told : C → Option (List Exchange)) (store : C → List Entry → Type 0) (later : C → C → Type 0)
    (faults : C → ℕ) (chosen : C → Option Peer) (plan : PullPlan) (channel : List Track) (disk disk' : D) (dial dial' : C)
    (old new : Archive) (log : List Entry) (count : ℕ) : Type 0 where
  pub rounds : List Round
  pub are : AreRounds plan channel log rounds
  pub count_is : length rounds ≡ count
  pub asks : Asks told store later faults chosen dial dial' (made_in rounds)
  pub adds : Adds site disk disk' old new log (kept_in rounds) []

-- fewer than were wanted ended, and the one behind them broke off
pub record RanOut {D C : Type 0} (site : Seen D) (told : C → Option (List Exchange)) (store : C → List Entry → Type 0)
    (later : C → C → Type 0) (faults : C → ℕ) (chosen : C → Option Peer) (plan : PullPlan) (channel : List Track) (disk disk' : D)
    (dial dial' : C) (old new : Archive) (log : List Entry) (why : Stop) : Type 0 where
  pub rounds : List Round
  pub are : AreRounds plan channel log rounds
  pub few : length rounds < plan.rounds
  pub made : List Exchange
  pub added : List Fragment
  pub tried : List Fragment
  pub asks : Asks told store later faults chosen dial dial' (made_in rounds ++ made)
  pub adds : Adds site disk disk' old new log (kept_in rounds ++ added) tried
  pub stops : RoundStops plan channel new (log ++ keeps_of (kept_in rounds)) made added tried why

-- ---- a whole call

-- as many rounds as were wanted ended, and nothing was done behind them
pub record IsDone (plan : PullPlan) (count : ℕ) (made : List Exchange) (added tried : List Fragment) : Type 0 where
  pub all : count ≡ plan.rounds
  pub made_is : made ≡ []
  pub added_is : added ≡ []
  pub tried_is : tried ≡ []

-- the round behind them broke off
pub record IsStopped (plan : PullPlan) (channel : List Track) (new : Archive) (log : List Entry) (count : ℕ) (made : List Exchange)
    (added tried : List Fragment) (end : RelayEnd) : Type 0 where
  pub few : count < plan.rounds
  pub why : Stop
  pub end_is : end ≡ end_of why
  pub stops : RoundStops plan channel new log made added tried why

abbrev pub EndsWith : PullPlan → List Track → Archive → List Entry → ℕ → List Exchange → List Fragment → List Fragment → RelayEnd → Type 0
EndsWith plan channel new log count made added tried ends.Done = IsDone plan count made added tried
EndsWith plan channel new log count made added tried (ends.NoManifest outcomes) = IsStopped plan channel new log count made added tried
    (ends.NoManifest outcomes)
EndsWith plan channel new log count made added tried (ends.NoTrack index) = IsStopped plan channel new log count made added tried (ends.NoTrack index)
EndsWith plan channel new log count made added tried (ends.GaveUp address outcomes) = IsStopped plan channel new log count made added tried
    (ends.GaveUp address outcomes)
EndsWith plan channel new log count made added tried (ends.Refused address cause) = IsStopped plan channel new log count made added tried
    (ends.Refused address cause)
EndsWith plan channel new log count made added tried ends.Full = IsStopped plan channel new log count made added tried ends.Full
EndsWith plan channel new log count made added tried ends.DiskFault = IsStopped plan channel new log count made added tried ends.DiskFault
EndsWith plan channel new log count made added tried ends.NoMemory = IsStopped plan channel new log count made added tried ends.NoMemory

-- Rounds ended, and perhaps one more broke off: what it made and kept stands behind what they did. `tried` is what was read last where
-- that wasn't kept.
pub record Relayed {D C : Type 0} (site : Seen D) (told : C → Option (List Exchange)) (store : C → List Entry → Type 0)
    (later : C → C → Type 0) (faults : C → ℕ) (chosen : C → Option Peer) (plan : PullPlan) (channel : List Track) (disk disk' : D)
    (dial dial' : C) (old new : Archive) (log : List Entry) (end : RelayEnd) : Type 0 where
  pub rounds : List Round
  pub are : AreRounds plan channel log rounds
  pub made : List Exchange
  pub added : List Fragment
  pub tried : List Fragment
  pub asks : Asks told store later faults chosen dial dial' (made_in rounds ++ made)
  pub adds : Adds site disk disk' old new log (kept_in rounds ++ added) tried
  pub ends : EndsWith plan channel new (log ++ keeps_of (kept_in rounds)) (length rounds) made added tried end

-- all that a manifest lists of the channel's tracks is kept
abbrev pub KeepsListed : List Track → List Entry → Round → Type 0
KeepsListed channel log r = AllByRecursion (λ w. IsSome (kept_at log w.address)) (wants_of channel r.listing)
