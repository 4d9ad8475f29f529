-- Taking in an entry that was in doubt.
use Rattle.std.specs.Prelude.{◌≡◌, ℕ, ◌+◌, ◌≤◌, ◌<◌, ◌^◌, Option, None, Some}
use Rattle.sm_model.specs.declared.address.Address.{Address}
use Rattle.sm_log.specs.declared.verdict.Judged.TheVariants.{New}
use Rattle.sm_log.specs.Adds.{verdict}
use Rattle.sm_record.specs.declared.meta.Meta.{Meta}
use Rattle.sm_archive.specs.declared.index.Index.{Index}
use Rattle.sm_archive.specs.declared.archive.Pending.{Pending}
use Rattle.sm_archive.specs.declared.archive.Pending.TheVariants as pending
use Rattle.sm_archive.specs.Index.{HasSpace, Added}

-- what adding needs
pub record CanAdd (i : Index) (a : Address) (m : Meta) : Type 0 where
  pub space : HasSpace i 1 a.stream
  pub verdict : verdict i.catalog.channel i.catalog.adds a m.duration ≡ New
  pub lasts : 1 ≤ m.duration
  pub ends : a.time + m.duration < 2 ^ 63

abbrev pub CanTake : Option Index → Pending → Type 0
CanTake index (pending.Declare own) = Unit {0}
CanTake None (pending.Keep a m check) = ⊥
CanTake (Some i) (pending.Keep a m check) = CanAdd i a m

abbrev pub Taken : Option Index → Pending → ℕ → Option Index → Type 0
Taken old (pending.Declare own) place new = new ≡ Some own
Taken None (pending.Keep a m check) place new = ⊥
Taken (Some i) (pending.Keep a m check) place None = ⊥
Taken (Some i) (pending.Keep a m check) place (Some j) = Added i j a m place
