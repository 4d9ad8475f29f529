-- A standby of a primary that keeps a log.
use Rattle.std.specs.Prelude.{◌≡◌, ◌<◌, ◌≤◌, ℕ, List, ◌∷◌, ◌++◌, length, Option, None, Some, All, Contains}
use Rattle.std.specs.List.{AllByRecursion}
use Rattle.sm_model.specs.declared.entry.Entry.{Entry}
use Rattle.sm_model.specs.declared.entry.Entry.TheVariants.{Keep}
use Rattle.sm_model.specs.declared.fragment.Fragment.{Fragment}
use Rattle.sm_model.specs.declared.track.Track.{Track}
use Rattle.sm_model.specs.Channels.{IsNarrowTrack}
use Rattle.sm_model.specs.Entries.{address_of}
use Rattle.sm_site.specs.Image.{Image}
use Rattle.sm_archive.specs.declared.archive.Archive.{Archive}
use Rattle.sm_archive.specs.Store.{IsStore}
use Rattle.sm_archive.specs.Stands.{Stands}
use Rattle.sm_fetch.specs.declared.dial.Exchange.{Exchange}
use Rattle.sm_fetch.specs.declared.place.Place.{Place}
use Rattle.sm_client.specs.Origins.{again}
use Rattle.sm_client.specs.Served.{IsPlace, AnsweredBy}
use Rattle.sm_standby.specs.declared.report.FollowEnd.{FollowEnd}
use Rattle.sm_standby.specs.declared.report.FollowEnd.TheVariants as ends
use Rattle.sm_standby.specs.Rounds.{addresses_of}

-- ---- a primary

-- The dial was told to make these exchanges. A primary with this channel, whose names are bytes, answered them, with the first log before them,
-- and with the last one behind.
pub record IsServed {C : Type 0} (told : C → Option (List Exchange)) (dial dial' : C) (place : Place) (channel : List Track) (first last : List Entry)
    (made : List Exchange) : Type 0 where
  pub before : List Exchange
  pub told_before : told dial ≡ Some before
  pub told_after : told dial' ≡ Some (before ++ made)
  pub place_is : IsPlace place
  pub tracks : All IsNarrowTrack channel
  pub names : AllByRecursion (λ t. All (λ b. b < 256) t.name) channel
  pub answered : AnsweredBy channel first made last

-- the log with which the first of these exchanges was answered
abbrev pub moment_of : {C : Type 0} {told : C → Option (List Exchange)} {dial dial' : C} {place : Place} {channel : List Track} {first last : List Entry}
    {x : Exchange} {made : List Exchange} → IsServed told dial dial' place channel first last (x ∷ made) → List Entry
moment_of {first = first} s = first ++ s.answered.0

-- each fragment that the log keeps stands at an address to which its manifest leads
abbrev pub LeadsToAll : List Track → List Entry → Type 0
LeadsToAll channel log = (f : Fragment) → Contains log (Keep f) → Contains (addresses_of channel (again channel log)) (address_of f)

-- ---- what it leaves

-- the other log goes on from this one
abbrev pub IsFront : List Entry → List Entry → Type 0
IsFront log up = (more : List Entry) × (up ≡ log ++ more)

-- at a moment a crash leaves a store whose log is a front of this one
abbrev pub LeavesStart : List Entry → ℕ → Image → Type 0
LeavesStart up t c = (after : List Entry) × IsStore after c × IsFront after up

-- the archive stands for a front of the primary's log, which has so many entries at least
pub record Reaches (leave : Image → Type 0) (new : Archive) (up : List Entry) (count : ℕ) : Type 0 where
  pub log : List Entry
  pub stands : Stands new log None leave
  pub front : IsFront log up
  pub long : count ≤ length log

-- ---- how it ends

-- as many rounds as were wanted ended
abbrev pub EndsRounds : FollowEnd → Type 0
EndsRounds ends.Done = Unit {0}
EndsRounds (ends.Gap place next) = Unit {0}
EndsRounds (ends.NoManifest outcomes) = ⊥
EndsRounds (ends.NoTrack index) = ⊥
EndsRounds (ends.GaveUp address outcomes) = ⊥
EndsRounds (ends.OtherId address id) = ⊥
EndsRounds (ends.Refused address cause) = ⊥
EndsRounds ends.Full = ⊥
EndsRounds ends.DiskFault = ⊥
EndsRounds ends.NoMemory = ⊥

-- not for what the primary answers
abbrev pub EndsWell : FollowEnd → Type 0
EndsWell ends.Done = Unit {0}
EndsWell (ends.Gap place next) = Unit {0}
EndsWell (ends.NoManifest outcomes) = ⊥
EndsWell (ends.NoTrack index) = ⊥
EndsWell (ends.GaveUp address outcomes) = ⊥
EndsWell (ends.OtherId address id) = ⊥
EndsWell (ends.Refused address cause) = ⊥
EndsWell ends.Full = Unit {0}
EndsWell ends.DiskFault = Unit {0}
EndsWell ends.NoMemory = Unit {0}
