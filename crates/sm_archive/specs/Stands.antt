-- What an archive stands for: a log and perhaps an entry in doubt.
use Rattle.std.specs.Prelude.{◌≡◌, ℕ, ◌+◌, ◌-◌, ◌≤◌, ◌<◌, ◌^◌, min, List, [], ◌∷◌, ◌++◌, length, sum_by, Option, None, Some}
use Rattle.std.specs.List.{AllZip}
use Rattle.sm_model.specs.declared.track.Track.{Track}
use Rattle.sm_model.specs.declared.entry.Entry.{Entry}
use Rattle.sm_model.specs.declared.entry.Entry.TheVariants.{Declare, Keep}
use Rattle.sm_model.specs.Entries.{address_of}
use Rattle.sm_log.specs.Logs.{channel_of, adds_from, FitsBehind, IsSound}
use Rattle.sm_record.specs.declared.meta.Meta.{Meta}
use Rattle.sm_record.specs.Bodies.{IsBody}
use Rattle.sm_record.specs.Metas.{IsMetaOf}
use Rattle.sm_site.specs.Image.{Image}
use Rattle.sm_seglog.specs.Segments.{Segments}
use Rattle.sm_seglog.specs.Standing as seg
use Rattle.sm_archive.specs.declared.index.Index.{Index}
use Rattle.sm_archive.specs.declared.archive.Pending.{Pending}
use Rattle.sm_archive.specs.declared.archive.Pending.TheVariants as pending
use Rattle.sm_archive.specs.declared.archive.Doubt.{Doubt}
use Rattle.sm_archive.specs.declared.archive.Archive.{Archive}
use Rattle.sm_archive.specs.Index.{HasSpace}
use Rattle.sm_archive.specs.Store.{Spell}
use Rattle.sm_seglog.specs.Segments.{count_of}

-- the place of a fragment's track, and its span
abbrev pub IsMetaIn : List Track → Entry → Meta → Type 0
IsMetaIn channel (Declare tracks) m = ⊥
IsMetaIn channel (Keep f) m = IsMetaOf channel f m

-- the index is that of a log that has a channel
pub record IsIndex (i : Index) (log : List Entry) : Type 0 where
  pub rest : List Entry
  pub log_is : log ≡ Declare i.catalog.channel ∷ rest
  pub adds : i.catalog.adds ≡ adds_from 1 rest
  pub metas : AllZip (IsMetaIn i.catalog.channel) rest i.metas.items

abbrev pub IndexIs : Option Index → List Entry → Type 0
IndexIs None log = log ≡ []
IndexIs (Some i) log = IsIndex i log

-- what is kept of an entry in doubt
abbrev pub IsPending : Pending → Option Index → List Entry → Entry → Type 0
IsPending (pending.Declare i) index log e = IsIndex i (e ∷ []) × (log ≡ [])
IsPending (pending.Keep a m check) None log e = ⊥
IsPending (pending.Keep a m check) (Some i) log (Declare tracks) = ⊥
IsPending (pending.Keep a m check) (Some i) log (Keep f) = (a ≡ address_of f) × IsMetaOf i.catalog.channel f m × HasSpace i 1 a.stream

pub record IsDoubt (d : Doubt) (index : Option Index) (v : Segments) (log : List Entry) (body : List ℕ) (e : Entry) : Type 0 where
  pub fits : FitsBehind log e
  pub few : length log + 1 < 2 ^ 32
  pub spelled : IsBody (channel_of (log ++ e ∷ [])) e body
  pub bytes : d.bytes ≡ 5 + length body
  pub spare : 1 ≤ v.last.spare
  pub pends : IsPending d.entry index log e

abbrev pub Doubted : Option Doubt → Option Index → Segments → List Entry → Option (List ℕ) → Option Entry → Type 0
Doubted None index v log None None = Unit {0}
Doubted None index v log None (Some e) = ⊥
Doubted None index v log (Some body) e = ⊥
Doubted (Some d) index v log (Some body) (Some e) = IsDoubt d index v log body e
Doubted (Some d) index v log (Some body) None = ⊥
Doubted (Some d) index v log None e = ⊥

-- the bytes that the records of these bodies use
abbrev pub used_by : List (List ℕ) → ℕ
used_by bodies = sum_by (λ b. 5 + length b) bodies

-- what the archive keeps is that of the log
pub record Keeps (a : Archive) (bodies : List (List ℕ)) (body : Option (List ℕ)) (log : List Entry) (doubt : Option Entry) : Type 0 where
  pub count : count_of a.log ≡ min (length bodies) (2 ^ 64 - 1)
  pub spell : Spell bodies log
  pub sound : IsSound log
  pub index : IndexIs a.index log
  pub used : a.used ≡ min (used_by bodies) (2 ^ 64 - 1)
  pub few : a.limits.entries < 2 ^ 32
  pub low : a.limits.store_bytes ≤ 2 ^ 62
  pub doubted : Doubted a.doubt a.index a.log log body doubt

-- Each outcome of a crash is the log, or, where an entry is in doubt, the log and perhaps that entry behind it.
pub record Stands (a : Archive) (log : List Entry) (doubt : Option Entry) (outcomes : Image → Type 0) : Type 0 where
  pub bodies : List (List ℕ)
  pub body : Option (List ℕ)
  pub stands : seg.Stands a.log bodies body outcomes
  pub keeps : Keeps a bodies body log doubt
