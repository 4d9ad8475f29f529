-- What opening a store as an archive comes to.
use Rattle.std.specs.Prelude.{◌≡◌, ◌≤◌, ◌⊎◌, ◌++◌, ℕ, List, Option, None, IfSome, Result, Ok, Err}
use Rattle.sm_model.specs.declared.entry.Entry.{Entry}
use Rattle.sm_model.specs.declared.track.Track.{Track}
use Rattle.sm_site.specs.Clauses.{Acted, Rose}
use Rattle.sm_site.specs.Image.{Image}
use Rattle.sm_site.specs.Meanings.{Seen}
use Rattle.sm_archive.specs.declared.answers.Declared.{Declared}
use Rattle.sm_archive.specs.declared.answers.Declared.TheVariants as declared
use Rattle.sm_archive.specs.declared.archive.Archive.{Archive}
use Rattle.sm_archive.specs.Declaring.{DeclareStep}
use Rattle.sm_archive.specs.Stands.{Stands}
use Rattle.sm_archive.specs.Store.{IsStore}
use Rattle.sm_command.specs.declared.fault.StoreFault.{StoreFault}
use Rattle.sm_command.specs.Lasting.{LeavesLog}
use Rattle.sm_command.specs.Serving.{IsLadderInput, NotRead, WhyUnopened, outcome_of, standard}
use Rattle.sm_archive.specs.Seen.{limits_of}
use Rattle.sm_ends.specs.Ended.{End}

-- the archive stands for a log without a doubt, which is the store's where the disk tells its contents, under the standard limits
pub record IsOpened {D : Type 0} (site : Seen D) (archive : Archive) (old new : D) : Type 0 where
  pub log : List Entry
  pub store : IfSome (site.view old).contents (IsStore log)
  pub stands : Stands archive log None (site.may_leave new)
  pub limits_are : limits_of archive ≡ standard

-- the image is a store whose log begins with this one
abbrev pub BeginsWith : List Entry → Image → Type 0
BeginsWith log image = (now : List Entry) × (more : List Entry) × IsStore now image × (now ≡ log ++ more)

-- The input was read to its end as a ladder, whose channel was declared to an archive that stood for this log; this is what it comes to.
pub record Agrees {D : Type 0} (site : Seen D) (told told' : Option (List ℕ)) (log : List Entry) (archive : Archive) (old new : D)
    (result : Result (Unit {0}) StoreFault) : Type 0 where
  pub channel : List Track
  pub input : IsLadderInput told told' (Ok channel)
  pub answer : Declared
  pub comes_to : result ≡ outcome_of answer
  pub step : DeclareStep (Acted (site.view old) (site.view new)) (site.may_leave new) archive log None channel answer
  -- a disk that failed counted it
  pub fault : answer ≡ declared.DiskFault → Rose (site.view old).disk_faults (site.view new).disk_faults

-- a store was opened, and a channel was declared to it, or no ladder was read
pub record Tries {D : Type 0} (site : Seen D) (input input' : End) (archive : Archive) (old new : D)
    (result : Result (Unit {0}) StoreFault) : Type 0 where
  pub before : Archive
  pub opened : D
  pub found : IsOpened site before old opened
  pub no_fewer : (site.view old).disk_faults ≤ (site.view opened).disk_faults
  pub agrees : Agrees site input.told input'.told found.log archive opened new result ⊎ (NotRead input input' result × (new ≡ opened))

-- The archive has a channel with the tracks of the ladder that the input is: one that it had, or that one, which was declared.
pub record IsDeclared {D : Type 0} (site : Seen D) (input input' : End) (archive : Archive) (old new : D) : Type 0 where
  pub tries : Tries site input input' archive old new (Ok tt)
  pub log : List Entry
  pub stands : Stands archive log None (site.may_leave new)
  pub limits_are : limits_of archive ≡ standard

-- why no archive was opened, in which case the input wasn't read and nothing was declared, or none that has the channel of the input
abbrev pub WhyUndeclared : {D : Type 0} → Seen D → End → End → D → D → StoreFault → Type 0
WhyUndeclared site input input' old new why =
    (WhyUnopened (site.view old) (site.view new) why × (input' ≡ input) × LeavesLog site old new)
    ⊎ ((archive : Archive) × Tries site input input' archive old new (Err why))
