-- The parts of keep.
use Rattle.std.specs.Prelude.{◌≡◌, ◌⊎◌, ℕ, ◌≤◌, ◌<◌, ◌^◌, false, List, [], ◌∷◌, ◌++◌, length, Option, None, Some}
use Rattle.sm_model.specs.declared.track.Track.{Track}
use Rattle.sm_model.specs.declared.fragment.Fragment.{Fragment}
use Rattle.sm_model.specs.declared.entry.Entry.{Entry}
use Rattle.sm_model.specs.declared.entry.Entry.TheVariants.{Keep}
use Rattle.sm_model.specs.Entries.{address_of}
use Rattle.sm_log.specs.declared.verdict.Judged.TheVariants.{New, Known}
use Rattle.sm_log.specs.Adds.{is_declared}
use Rattle.sm_log.specs.Logs.{verdict_on}
use Rattle.sm_record.specs.Bodies.{IsBody, body_len}
use Rattle.sm_record.specs.Metas.{IsMetaOf}
use Rattle.sm_site.specs.Image.{Image}
use Rattle.sm_seglog.specs.Segments.{Segments}
use Rattle.sm_archive.specs.declared.index.Index.{Index}
use Rattle.sm_archive.specs.declared.archive.Pending.{Pending}
use Rattle.sm_archive.specs.declared.archive.Pending.TheVariants as pending
use Rattle.sm_archive.specs.declared.archive.Archive.{Archive}
use Rattle.sm_archive.specs.declared.ready.Ready.{Ready}
use Rattle.sm_archive.specs.declared.answers.Keeping.{Keeping}
use Rattle.sm_archive.specs.declared.answers.Keeping.TheVariants as keeping
use Rattle.sm_archive.specs.Index.{HasSpace}
use Rattle.sm_archive.specs.Stands.{Stands}
use Rattle.sm_archive.specs.Keeping.{IsReady, SpaceIn, HasChannel, IsWithin, IsWithinNow, MeetsLimit, refusal_of}
use Rattle.sm_seglog.specs.Segments.{HasRoom}

-- ready by this index
pub record IsReadyIn (r : Ready) (f : Fragment) (i : Index) (v : Segments) : Type 0 where
  pub address : r.address ≡ address_of f
  pub body : IsBody (Some i.catalog.channel) (Keep f) r.body
  pub meta : IsMetaOf i.catalog.channel f r.meta
  pub len : length r.body ≡ body_len (Keep f)
  pub short : length r.body < 2 ^ 28
  pub room : HasRoom v (length r.body)
  pub spare : 2 ≤ v.last.spare
  pub space : HasSpace i 2 r.address.stream

abbrev pub ReadyIn : Option Ready → Fragment → Index → Segments → Type 0
ReadyIn None f i v = is_declared i.catalog.channel (address_of f) ≡ false
ReadyIn (Some r) f i v = IsReadyIn r f i v

-- ready by what is in doubt
abbrev pub ReadyPending : Option Ready → Fragment → Pending → Segments → Type 0
ReadyPending r f (pending.Declare i) v = ReadyIn r f i v
ReadyPending None f (pending.Keep a m check) v = Unit {0}
ReadyPending (Some r) f (pending.Keep a m check) v = ⊥

pub record IsPrepared (n : ℕ) (a : Archive) (r : Ready) (f : Fragment) : Type 0 where
  pub ready : IsReady r f a
  pub spare : n ≤ a.log.last.spare
  pub space : SpaceIn a n r.address.stream

abbrev pub Prepared : Option Ready → Archive → Fragment → Type 0
Prepared None a f = (channel : List Track) → HasChannel a channel → is_declared channel (address_of f) ≡ false
Prepared (Some r) a f = IsPrepared 2 a r f

-- what keep does once no entry is in doubt
abbrev pub KeptNew : Type 0 → (Image → Type 0) → Archive → List Entry → Fragment → Keeping → Type 0
KeptNew acted outcomes new log f (keeping.Kept place) =
    (verdict_on log f ≡ New) × (place ≡ length log) × IsWithinNow new log f × acted × Stands new (log ++ Keep f ∷ []) None outcomes
KeptNew acted outcomes new log f (keeping.Known place) = (verdict_on log f ≡ Known place) × Stands new log None outcomes
KeptNew acted outcomes new log f (keeping.Refused cause) = (refusal_of f (verdict_on log f) ≡ Some cause) × Stands new log None outcomes
KeptNew acted outcomes new log f keeping.Full = (verdict_on log f ≡ New) × MeetsLimit new log f × Stands new log None outcomes
KeptNew acted outcomes new log f keeping.DiskFault =
    (verdict_on log f ≡ New) × IsWithin new log f × (Stands new log None outcomes ⊎ (acted × Stands new log (Some (Keep f)) outcomes))
KeptNew acted outcomes new log f keeping.NoMemory = ⊥
