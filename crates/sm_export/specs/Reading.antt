-- What is left behind a reading of the store, and why a file that is read from it ends too early.
use Rattle.std.specs.Prelude.{◌≤◌, ℕ, List, ◌++◌, take, Option, Result, IsErrOf, IsSome}
use Rattle.std.specs.Io.KnownBytes.{Appends}
use Rattle.sm_ends.specs.Faults.{Rose as FaultsRose}
use Rattle.sm_ends.specs.Moves.{AppendsFront}
use Rattle.sm_model.specs.declared.entry.Entry.{Entry}
use Rattle.sm_site.specs.Clauses.{Rose, Throughout}
use Rattle.sm_site.specs.Meanings.{DiskAlone, View, Seen}
use Rattle.sm_archive.specs.Stands.{Stands}
use Rattle.sm_archive.specs.declared.archive.Archive.{Archive}
use Rattle.sm_export.specs.declared.gathering.Broken.{Broken}
use Rattle.sm_export.specs.declared.gathering.Broken.TheVariants as broken

-- What of a file went out where it ends too early: its header, and a front of the texts behind that; or, where the sink failed, a front of both.
abbrev pub WentOut : Broken → Option (List ℕ) → Option (List ℕ) → List ℕ → List ℕ → Type 0
WentOut broken.WriteFault held held' header texts = AppendsFront held held' (header ++ texts)
WentOut broken.DiskFault held held' header texts = (n : ℕ) × Appends held held' (header ++ take n texts)
WentOut broken.Damaged held held' header texts = (n : ℕ) × Appends held held' (header ++ take n texts)
WentOut broken.NoMemory held held' header texts = (n : ℕ) × Appends held held' (header ++ take n texts)

-- The disk was only read: the archive stands for the log that it stood for, and at each moment a crash leaves what it could leave before.
pub record IsOnlyRead {D : Type 0} (site : Seen D) (archive : Archive) (old new : D) : Type 0 where
  pub stands : (log : List Entry) (doubt : Option Entry) → Stands archive log doubt (site.may_leave old) → Stands archive log doubt (site.may_leave new)
  pub any_moment : Throughout site old new (λ t c. site.may_leave old c)
  pub disk_alone : DiskAlone (site.view old) (site.view new)

-- Each error has its cause: what was read is damaged only on a disk that doesn't tell its contents, and a fault of the disk or of the sink
-- was counted. The sink's count of faults doesn't fall, whatever the answer.
pub record WhyBroken {T : Type 0} (old new : View) (faults faults' : ℕ) (result : Result T Broken) : Type 0 where
  pub damaged : IsErrOf result broken.Damaged → IsSome old.contents → ⊥
  pub disk_fault : IsErrOf result broken.DiskFault → Rose old.disk_faults new.disk_faults
  pub fault : IsErrOf result broken.WriteFault → FaultsRose faults faults'
  pub later : faults ≤ faults'
