-- What reserving leaves: the same archive, perhaps with more space.
use Rattle.std.specs.Prelude.{◌≡◌, ℕ, Option, None, Some}
use Rattle.sm_seglog.specs.Segments.{OnlyReserved}
use Rattle.sm_archive.specs.declared.index.Index.{Index}
use Rattle.sm_archive.specs.declared.archive.Pending.{Pending}
use Rattle.sm_archive.specs.declared.archive.Pending.TheVariants as pending
use Rattle.sm_archive.specs.declared.archive.Doubt.{Doubt}
use Rattle.sm_archive.specs.declared.archive.Archive.{Archive}
use Rattle.sm_archive.specs.Index.{Reserved}
use Rattle.sm_seglog.specs.Standing as seg

abbrev pub IndexReserved : Option Index → Option Index → Type 0
IndexReserved None None = Unit {0}
IndexReserved None (Some j) = ⊥
IndexReserved (Some i) None = ⊥
IndexReserved (Some i) (Some j) = Reserved i j

abbrev pub PendingReserved : Pending → Pending → Type 0
PendingReserved (pending.Declare i) (pending.Declare j) = Reserved i j
PendingReserved (pending.Declare i) (pending.Keep a m check) = ⊥
PendingReserved (pending.Keep a m check) p = p ≡ pending.Keep a m check

abbrev pub DoubtReserved : Option Doubt → Option Doubt → Type 0
DoubtReserved None None = Unit {0}
DoubtReserved None (Some y) = ⊥
DoubtReserved (Some x) None = ⊥
DoubtReserved (Some x) (Some y) = (y.bytes ≡ x.bytes) × PendingReserved x.entry y.entry

pub record IsReserved (a b : Archive) : Type 0 where
  pub limits : b.limits ≡ a.limits
  pub used : b.used ≡ a.used
  pub log : OnlyReserved a.log b.log
  pub index : IndexReserved a.index b.index
  pub doubt : DoubtReserved a.doubt b.doubt

-- the gates that were reserved are there, but for one that was used, and so is the room
abbrev pub StaysReserved : Archive → Archive → Type 0
StaysReserved a b = seg.StaysReserved a.log b.log

-- a header in doubt and a channel don't stand together
abbrev pub HasOneIndex : Archive → Type 0
HasOneIndex a = (i j : Index) (bytes : ℕ) → a.index ≡ Some i → a.doubt ≡ Some (record { entry = pending.Declare j; bytes = bytes }) → ⊥
