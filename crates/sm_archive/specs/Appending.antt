-- What appending an entry needs, and what stays where the disk failed.
use Rattle.std.specs.Prelude.{◌≡◌, ℕ, ◌+◌, ◌≤◌, ◌<◌, ◌^◌, List, [], ◌∷◌, ◌++◌, length}
use Rattle.sm_model.specs.declared.entry.Entry.{Entry}
use Rattle.sm_log.specs.Logs.{channel_of, FitsBehind}
use Rattle.sm_record.specs.Bodies.{IsBody}
use Rattle.sm_seglog.specs.Standing.{Fits}
use Rattle.sm_archive.specs.declared.archive.Pending.{Pending}
use Rattle.sm_archive.specs.declared.archive.Archive.{Archive}
use Rattle.sm_archive.specs.Stands.{IsPending}
use Rattle.sm_seglog.specs.Segments.{HasRoom}

-- the entry may stand behind the log, its body is there, and it meets no limit
pub record CanAppend (a : Archive) (p : Pending) (body : List ℕ) (log : List Entry) (e : Entry) : Type 0 where
  pub fits : FitsBehind log e
  pub few : length log + 1 < 2 ^ 32
  pub spelled : IsBody (channel_of (log ++ e ∷ [])) e body
  pub pends : IsPending p a.index log e
  pub some : 1 ≤ length body
  pub short : length body < 2 ^ 32
  pub room : HasRoom a.log (length body)
  pub spare : 1 ≤ a.log.last.spare
  pub bytes : a.used + (5 + length body) ≤ a.limits.store_bytes
  pub files : Fits a.log (length body)

-- nothing was taken in, and what fitted still fits
pub record IsUnused (a b : Archive) : Type 0 where
  pub limits : b.limits ≡ a.limits
  pub used : b.used ≡ a.used
  pub index : b.index ≡ a.index
  pub files : (n : ℕ) → Fits a.log n → Fits b.log n
