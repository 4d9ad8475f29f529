-- What declare answers, and what it leaves.
use Rattle.std.specs.Prelude.{◌≡◌, ◌≢◌, ◌⊎◌, ◌+◌, ◌≤◌, ◌<◌, ◌^◌, List, [], ◌∷◌, length, slice_get, Option, None, Some, IsSome, option_map}
use Rattle.sm_model.specs.declared.track.Track.{Track}
use Rattle.sm_model.specs.declared.entry.Entry.{Entry}
use Rattle.sm_model.specs.declared.entry.Entry.TheVariants.{Declare}
use Rattle.sm_log.specs.Logs.{channel_of}
use Rattle.sm_archive.specs.Steps.{Clears}
use Rattle.sm_record.specs.Bodies.{IsSealedBody, body_len}
use Rattle.sm_site.specs.Image.{Image}
use Rattle.sm_seglog.specs.Segments.{Segments}
use Rattle.sm_seglog.specs.Standing.{EndsWithin, Fits}
use Rattle.sm_log.specs.Headers.{check}
use Rattle.sm_model.specs.declared.cause.Cause.{Cause}
use Rattle.sm_model.specs.declared.cause.Cause.TheVariants as cause
use Rattle.sm_log.specs.declared.verdict.Checked.{Checked}
use Rattle.sm_log.specs.declared.verdict.Checked.TheVariants as checked
use Rattle.sm_archive.specs.declared.archive.Archive.{Archive}
use Rattle.sm_archive.specs.declared.ready.Header.{Header}
use Rattle.sm_archive.specs.declared.answers.Declared.{Declared}
use Rattle.sm_archive.specs.declared.answers.Declared.TheVariants as answer
use Rattle.sm_archive.specs.Stands.{IsIndex, Stands}
use Rattle.sm_seglog.specs.Segments.{HasRoom}

-- a header that is ready to be declared
pub record IsHeader (h : Header) (channel : List Track) (v : Segments) : Type 0 where
  pub index : IsIndex h.index (Declare channel ∷ [])
  pub body : (known : Option (List Track)) → IsSealedBody known (Declare channel) h.body
  pub len : length h.body ≡ body_len (Declare channel)
  pub short : length h.body < 2 ^ 28
  pub room : HasRoom v (length h.body)
  pub spare : 1 ≤ v.last.spare

-- ready, where the log is empty
abbrev pub ReadyHeader : Option Header → List Track → Segments → List Entry → Type 0
ReadyHeader None channel v log = log ≢ []
ReadyHeader (Some h) channel v log = IsHeader h channel v

-- no limit is met by a header in an empty log
pub record IsWithin (a : Archive) (channel : List Track) : Type 0 where
  pub bytes : a.used + (5 + body_len (Declare channel)) ≤ a.limits.store_bytes
  pub entries : 1 ≤ a.limits.entries
  pub files : Fits a.log (body_len (Declare channel))

-- none was met by a header that the archive has now
pub record IsWithinNow (a : Archive) : Type 0 where
  pub bytes : a.used ≤ a.limits.store_bytes
  pub entries : 1 ≤ a.limits.entries
  pub files : EndsWithin a.log

abbrev pub MeetsLimit : Archive → List Track → Type 0
MeetsLimit a channel =
    (a.limits.store_bytes < a.used + (5 + body_len (Declare channel))) ⊎ ((a.limits.entries < 1) ⊎ (Fits a.log (body_len (Declare channel)) → ⊥))

-- why a header is refused, by how its tracks stand to those of the channel
abbrev pub refusal_in : List Track → Checked → Option Cause
refusal_in header checked.Agreed = None
refusal_in header (checked.NotDeclared index) = option_map (λ (t : Track). cause.NotDeclared t.name t.bitrate) (slice_get header index)
refusal_in header (checked.Clash index) = option_map (λ (t : Track). cause.DeclClash t.name t.bitrate) (slice_get header index)

abbrev pub Compares : List Track → List Track → Declared → Type 0
Compares known channel answer.Agreed = check known channel ≡ checked.Agreed
Compares known channel (answer.Refused cause) = refusal_in channel (check known channel) ≡ Some cause
Compares known channel answer.Fixed = ⊥
Compares known channel answer.Full = ⊥
Compares known channel answer.DiskFault = ⊥
Compares known channel answer.NoMemory = ⊥

-- what declare does once no entry is in doubt
abbrev pub DeclaredNew : Type 0 → (Image → Type 0) → Archive → List Entry → List Track → Declared → Type 0
DeclaredNew acted outcomes new log channel answer.Fixed = (log ≡ []) × IsWithinNow new × acted × Stands new (Declare channel ∷ []) None outcomes
DeclaredNew acted outcomes new log channel answer.Agreed =
    (known : List Track) × (channel_of log ≡ Some known) × (check known channel ≡ checked.Agreed) × Stands new log None outcomes
DeclaredNew acted outcomes new log channel (answer.Refused cause) =
    (known : List Track) × (channel_of log ≡ Some known) × (refusal_in channel (check known channel) ≡ Some cause) × Stands new log None outcomes
DeclaredNew acted outcomes new log channel answer.Full = (log ≡ []) × MeetsLimit new channel × Stands new [] None outcomes
DeclaredNew acted outcomes new log channel answer.DiskFault =
    (log ≡ []) × IsWithin new channel × (Stands new [] None outcomes ⊎ (acted × Stands new [] (Some (Declare channel)) outcomes))
DeclaredNew acted outcomes new log channel answer.NoMemory = ⊥

-- A call of declare, from a log and a doubt to another, as a step of the machine. A doubt goes or comes, and a header is fixed, only where
-- the call acted on the disk.
abbrev pub DeclareStep : Type 0 → (Image → Type 0) → Archive → List Entry → Option Entry → List Track → Declared → Type 0
DeclareStep acted outcomes new log doubt channel answer.DiskFault =
    (IsSome doubt × Stands new log doubt outcomes)
    ⊎ ((mid : List Entry) × Clears acted log doubt mid × DeclaredNew acted outcomes new mid channel answer.DiskFault)
DeclareStep acted outcomes new log doubt channel answer.NoMemory = Stands new log doubt outcomes
DeclareStep acted outcomes new log doubt channel answer.Fixed =
    (mid : List Entry) × Clears acted log doubt mid × DeclaredNew acted outcomes new mid channel answer.Fixed
DeclareStep acted outcomes new log doubt channel answer.Agreed =
    (mid : List Entry) × Clears acted log doubt mid × DeclaredNew acted outcomes new mid channel answer.Agreed
DeclareStep acted outcomes new log doubt channel (answer.Refused cause) =
    (mid : List Entry) × Clears acted log doubt mid × DeclaredNew acted outcomes new mid channel (answer.Refused cause)
DeclareStep acted outcomes new log doubt channel answer.Full =
    (mid : List Entry) × Clears acted log doubt mid × DeclaredNew acted outcomes new mid channel answer.Full
