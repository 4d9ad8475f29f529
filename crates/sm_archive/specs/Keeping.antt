-- What keep and declare answer, and what they leave.
use Rattle.std.specs.Prelude.{◌≡◌, ◌⊎◌, ℕ, ◌+◌, ◌≤◌, ◌<◌, ◌^◌, Bool, true, false, List, [], ◌∷◌, ◌++◌, length, Option, None, Some, is_some}
use Rattle.sm_model.specs.declared.track.Track.{Track}
use Rattle.sm_model.specs.declared.fragment.Fragment.{Fragment}
use Rattle.sm_model.specs.declared.entry.Entry.{Entry}
use Rattle.sm_model.specs.declared.entry.Entry.TheVariants.{Keep}
use Rattle.sm_model.specs.Entries.{address_of}
use Rattle.sm_log.specs.declared.verdict.Judged.{Judged}
use Rattle.sm_log.specs.declared.verdict.Judged.TheVariants.{NotDeclared, Clash, Known, New, Overlap}
use Rattle.sm_log.specs.Adds.{times_of}
use Rattle.sm_log.specs.Times.{entry_at}
use Rattle.sm_log.specs.Logs.{adds_of, verdict_on}
use Rattle.sm_archive.specs.Steps.{Clears}
use Rattle.sm_record.specs.Bodies.{IsBody, body_len}
use Rattle.sm_record.specs.Metas.{IsMetaOf}
use Rattle.sm_site.specs.Image.{Image}
use Rattle.sm_seglog.specs.Standing.{EndsWithin, Fits}
use Rattle.sm_archive.specs.declared.index.Index.{Index}
use Rattle.sm_archive.specs.declared.archive.Pending.TheVariants as pending
use Rattle.sm_archive.specs.declared.archive.Archive.{Archive}
use Rattle.sm_archive.specs.declared.ready.Ready.{Ready}
use Rattle.sm_archive.specs.declared.answers.Keeping.{Keeping}
use Rattle.sm_archive.specs.declared.answers.Keeping.TheVariants as keeping
use Rattle.sm_model.specs.declared.cause.Cause.{Cause}
use Rattle.sm_model.specs.declared.cause.Cause.TheVariants as cause
use Rattle.sm_archive.specs.Index.{HasSpace}
use Rattle.sm_archive.specs.Stands.{Stands}
use Rattle.sm_seglog.specs.Segments.{HasRoom}

-- ---- the limits

-- whether the stream has a time that starts where the fragment does
abbrev pub has_time : List Entry → Fragment → Bool
has_time log f = is_some (entry_at f.time (times_of f.stream (adds_of log)))

-- no limit is met by a fragment behind this log, which the archive stands for
pub record IsWithin (a : Archive) (log : List Entry) (f : Fragment) : Type 0 where
  pub bytes : a.used + (5 + body_len (Keep f)) ≤ a.limits.store_bytes
  pub entries : length log + 1 ≤ a.limits.entries
  pub times : (has_time log f ≡ true) ⊎ (length (times_of f.stream (adds_of log)) < a.limits.times)
  pub files : Fits a.log (body_len (Keep f))

-- none was met by a fragment that the archive has now, behind this log
pub record IsWithinNow (a : Archive) (log : List Entry) (f : Fragment) : Type 0 where
  pub bytes : a.used ≤ a.limits.store_bytes
  pub entries : length log + 1 ≤ a.limits.entries
  pub times : (has_time log f ≡ true) ⊎ (length (times_of f.stream (adds_of log)) < a.limits.times)
  pub files : EndsWithin a.log

-- one of the limits is met
abbrev pub MeetsLimit : Archive → List Entry → Fragment → Type 0
MeetsLimit a log f =
    (a.limits.store_bytes < a.used + (5 + body_len (Keep f)))
    ⊎ ((a.limits.entries < length log + 1)
    ⊎ (((has_time log f ≡ false) × (a.limits.times ≤ length (times_of f.stream (adds_of log))))
    ⊎ (Fits a.log (body_len (Keep f)) → ⊥)))

-- ---- what is ready before the first call of the disk

-- the channel of the log, or of the header in doubt
pub record HasChannel (a : Archive) (channel : List Track) : Type 0 where
  pub index : Index
  pub is : (a.index ≡ Some index) ⊎ ((bytes : ℕ) × (a.doubt ≡ Some (record { entry = pending.Declare index; bytes = bytes })))
  pub channel_is : index.catalog.channel ≡ channel

-- so many more of this stream can be added, to the log's index and to that of the header in doubt
pub record SpaceIn (a : Archive) (n : ℕ) (stream : List ℕ) : Type 0 where
  pub index : (i : Index) → a.index ≡ Some i → HasSpace i n stream
  pub pends : (i : Index) (bytes : ℕ) → a.doubt ≡ Some (record { entry = pending.Declare i; bytes = bytes }) → HasSpace i n stream

pub record IsReady (r : Ready) (f : Fragment) (a : Archive) : Type 0 where
  pub address : r.address ≡ address_of f
  pub time : r.meta.time ≡ f.time
  pub duration : r.meta.duration ≡ f.duration
  pub body : (channel : List Track) → HasChannel a channel → IsBody (Some channel) (Keep f) r.body
  pub meta : (channel : List Track) → HasChannel a channel → IsMetaOf channel f r.meta
  pub len : length r.body ≡ body_len (Keep f)
  pub short : length r.body < 2 ^ 28
  pub room : HasRoom a.log (length r.body)

-- ---- the answers

-- why a fragment is refused, by the verdict on it
abbrev pub refusal_of : Fragment → Judged → Option Cause
refusal_of f New = None
refusal_of f (Known place) = None
refusal_of f NotDeclared = Some (cause.NotDeclared f.stream f.bitrate)
refusal_of f (Clash kept) = Some (cause.DurationClash kept f.duration)
refusal_of f (Overlap end) = Some (cause.Overlap end)

-- A call of keep, from a log and a doubt to another, as a step of the machine. A doubt goes or comes, and a fragment is kept, only where
-- the call acted on the disk.
abbrev pub KeepStep : Type 0 → (Image → Type 0) → Archive → List Entry → Option Entry → Fragment → Keeping → Type 0
KeepStep acted outcomes new log doubt f (keeping.Kept place) =
    (mid : List Entry) × Clears acted log doubt mid × (verdict_on mid f ≡ New) × (place ≡ length mid) × IsWithinNow new mid f × acted
    × Stands new (mid ++ Keep f ∷ []) None outcomes
KeepStep acted outcomes new log doubt f (keeping.Known place) =
    (mid : List Entry) × Clears acted log doubt mid × (verdict_on mid f ≡ Known place) × Stands new mid None outcomes
KeepStep acted outcomes new log doubt f (keeping.Refused cause) =
    (mid : List Entry) × Clears acted log doubt mid × (refusal_of f (verdict_on mid f) ≡ Some cause) × Stands new mid None outcomes
KeepStep acted outcomes new log doubt f keeping.Full =
    (mid : List Entry) × Clears acted log doubt mid × (verdict_on mid f ≡ New) × MeetsLimit new mid f × Stands new mid None outcomes
KeepStep acted outcomes new log doubt f keeping.DiskFault =
    ((is_some doubt ≡ true) × Stands new log doubt outcomes)
    ⊎ ((mid : List Entry) × Clears acted log doubt mid × (verdict_on mid f ≡ New) × IsWithin new mid f
    × (Stands new mid None outcomes ⊎ (acted × Stands new mid (Some (Keep f)) outcomes)))
KeepStep acted outcomes new log doubt f keeping.NoMemory = Stands new log doubt outcomes
