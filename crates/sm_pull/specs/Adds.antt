-- What is kept behind a log, one fragment after another.
use Rattle.std.specs.Prelude.{◌≡◌, ◌⊎◌, ℕ, List, [], ◌∷◌, ◌++◌, map, None, Some, IsSome, Result, Ok, Err, is_some}
use Rattle.sm_model.specs.declared.address.Address.{Address}
use Rattle.sm_model.specs.declared.entry.Entry.{Entry}
use Rattle.sm_model.specs.declared.entry.Entry.TheVariants.{Keep}
use Rattle.sm_model.specs.declared.fragment.Fragment.{Fragment}
use Rattle.sm_log.specs.declared.verdict.Judged.TheVariants.{New}
use Rattle.sm_log.specs.Logs.{verdict_on}
use Rattle.sm_site.specs.Image.{Image}
use Rattle.sm_site.specs.Meanings.{DiskAlone, Seen}
use Rattle.sm_site.specs.Clauses.{Throughout}
use Rattle.sm_archive.specs.declared.archive.Archive.{Archive}
use Rattle.sm_archive.specs.declared.answers.Keeping.{Keeping}
use Rattle.sm_archive.specs.declared.answers.Keeping.TheVariants as keepings
use Rattle.sm_archive.specs.Keeping.{IsWithin, MeetsLimit, refusal_of}
use Rattle.sm_archive.specs.Store.{IsStore}
use Rattle.sm_archive.specs.Stands.{Stands}
use Rattle.sm_pull.specs.declared.stop.Stop.{Stop}
use Rattle.sm_pull.specs.declared.stop.Stop.TheVariants as stop
use Rattle.sm_archive.specs.Seen.{limits_of}

abbrev pub keeps_of : List Fragment → List Entry
keeps_of fs = map (λ f. Keep f) fs

-- the log from before, with a front of what was kept
pub record IsFrontOf (log : List Entry) (kept : List Fragment) (after : List Entry) : Type 0 where
  pub front : List Fragment
  pub back : List Fragment
  pub whole : kept ≡ front ++ back
  pub after_is : after ≡ log ++ keeps_of front

-- at a moment a crash leaves a store of such a log
abbrev pub LeavesFront : List Entry → List Fragment → ℕ → Image → Type 0
LeavesFront log kept t c = (after : List Entry) × IsStore after c × IsFrontOf log kept after

-- what was to be kept last may be in doubt, or not there
abbrev pub StandsWith : Archive → List Entry → List Fragment → (Image → Type 0) → Type 0
StandsWith a log [] outcomes = Stands a log None outcomes
StandsWith a log (f ∷ fs) outcomes = Stands a log None outcomes ⊎ Stands a log (Some (Keep f)) outcomes

-- These were kept behind the log, in order. `tried` is the one that was to be kept where that came to nothing. A crash leaves at each
-- moment a front of all of them.
pub record Adds {D : Type 0} (site : Seen D) (disk disk' : D) (old new : Archive) (log : List Entry) (added tried : List Fragment)
    : Type 0 where
  pub stands : StandsWith new (log ++ keeps_of added) tried (site.may_leave disk')
  pub moments : IsSome (site.view disk).contents → Throughout site disk disk' (LeavesFront log (added ++ tried))
  pub contents : is_some (site.view disk').contents ≡ is_some (site.view disk).contents
  pub disk_alone : DiskAlone (site.view disk) (site.view disk')
  pub limits : limits_of new ≡ limits_of old

-- ---- one that is kept, or not

-- what is told of an answer of the archive for that address
abbrev pub IsStopOf : {A : Type 0} → Keeping → Address → Result A Stop → Type 0
IsStopOf (keepings.Kept place) a (Ok x) = Unit {0}
IsStopOf (keepings.Kept place) a (Err why) = ⊥
IsStopOf (keepings.Known place) a r = ⊥
IsStopOf (keepings.Refused cause) a (Ok x) = ⊥
IsStopOf (keepings.Refused cause) a (Err why) = why ≡ stop.Refused a cause
IsStopOf keepings.Full a (Ok x) = ⊥
IsStopOf keepings.Full a (Err why) = why ≡ stop.Full
IsStopOf keepings.DiskFault a (Ok x) = ⊥
IsStopOf keepings.DiskFault a (Err why) = why ≡ stop.DiskFault
IsStopOf keepings.NoMemory a (Ok x) = ⊥
IsStopOf keepings.NoMemory a (Err why) = why ≡ stop.NoMemory

-- why a fragment of that address wasn't kept behind this log
abbrev pub NotKept : Archive → List Entry → Fragment → Address → Stop → Type 0
NotKept new log f a (stop.Refused address cause) = (address ≡ a) × (refusal_of f (verdict_on log f) ≡ Some cause)
NotKept new log f a stop.Full = (verdict_on log f ≡ New) × MeetsLimit new log f
NotKept new log f a stop.DiskFault = (verdict_on log f ≡ New) × IsWithin new log f
NotKept new log f a stop.NoMemory = Unit {0}
NotKept new log f a (stop.NoManifest outcomes) = ⊥
NotKept new log f a (stop.NoTrack index) = ⊥
NotKept new log f a (stop.GaveUp address outcomes) = ⊥
