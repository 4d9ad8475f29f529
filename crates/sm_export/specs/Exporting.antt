-- What an export writes.
use Rattle.std.specs.Prelude.{◌≡◌, ◌<◌, ◌^◌, ℕ, true, false, ◌+◌, List, [], ◌∷◌, ◌++◌, length, take, Option, Some, None, slice_get}
use Rattle.std.specs.Option.{option_map}
use Rattle.std.specs.Io.KnownBytes.{Appends}
use Rattle.sm_ends.specs.Moves.{AppendsFront}
use Rattle.sm_model.specs.declared.cause.Cause.{Cause}
use Rattle.sm_model.specs.declared.cause.Cause.TheVariants as cause
use Rattle.sm_model.specs.declared.entry.Entry.{Entry}
use Rattle.sm_model.specs.declared.fragment.Fragment.{Fragment}
use Rattle.sm_model.specs.declared.track.Track.{Track}
use Rattle.sm_model.specs.FragText.{frag_text}
use Rattle.sm_log.specs.declared.verdict.Checked.{Checked}
use Rattle.sm_log.specs.declared.verdict.Checked.TheVariants as checked
use Rattle.sm_log.specs.Headers.{check}
use Rattle.sm_log.specs.Logs.{channel_of}
use Rattle.sm_export.specs.Heads.{IsHead, input_refusal}
use Rattle.sm_export.specs.Qualities.{quality}
use Rattle.sm_export.specs.declared.exported.Exported.{Exported}
use Rattle.sm_export.specs.declared.exported.Exported.TheVariants as exported

-- ---- the text

-- the canonical texts of fragments, numbered from this number on, without times ahead
abbrev pub texts_from : ℕ → ℕ → List Fragment → List ℕ
texts_from seq id [] = []
texts_from seq id (f ∷ fs) = frag_text seq id f [] ++ texts_from (seq + 1) id fs

-- the header of the input, and then each kept fragment of the quality, with the track_ID of 32 bits that the header gives it
pub record IsExportText (b : List ℕ) (log : List Entry) (name : List ℕ) (bitrate : ℕ) (text : List ℕ) : Type 0 where
  pub header : List ℕ
  pub channel : List Track
  pub id : ℕ
  pub head : IsHead b header channel name bitrate (Some id)
  pub id_fits : id < 2 ^ 32
  pub text_is : text ≡ header ++ texts_from 1 id (quality log name bitrate)

-- ---- a header that isn't the store's

abbrev pub has_quality : Option ℕ → List ℕ → ℕ → Option Cause
has_quality (Some id) name bitrate = None
has_quality None name bitrate = Some (cause.NotDeclared name bitrate)

abbrev pub unfit_by : Checked → List Track → Option ℕ → List ℕ → ℕ → Option Cause
unfit_by (checked.NotDeclared index) header id name bitrate = option_map (λ t. cause.NotDeclared t.name t.bitrate) (slice_get header index)
unfit_by (checked.Clash index) header id name bitrate = option_map (λ t. cause.DeclClash t.name t.bitrate) (slice_get header index)
unfit_by checked.Agreed header id name bitrate = has_quality id name bitrate

-- the first track of the header that the channel lacks, else the first that differs, else the quality where the header lacks it
abbrev pub unfit_in : List Track → List Track → Option ℕ → List ℕ → ℕ → Option Cause
unfit_in channel header id name bitrate = unfit_by (check channel header) header id name bitrate

abbrev pub unfit : Option (List Track) → List Track → Option ℕ → List ℕ → ℕ → Option Cause
unfit None header id name bitrate = Some cause.NoChannel
unfit (Some channel) header id name bitrate = unfit_in channel header id name bitrate

-- the header of the input isn't the store's, for this cause
pub record IsUnfit (b : List ℕ) (log : List Entry) (name : List ℕ) (bitrate : ℕ) (c : Cause) : Type 0 where
  pub header : List ℕ
  pub channel : List Track
  pub id : Option ℕ
  pub head : IsHead b header channel name bitrate id
  pub cause_is : unfit (channel_of log) channel id name bitrate ≡ Some c

-- it is the store's, with the quality
pub record IsFit (b : List ℕ) (log : List Entry) (name : List ℕ) (bitrate : ℕ) : Type 0 where
  pub header : List ℕ
  pub channel : List Track
  pub id : ℕ
  pub head : IsHead b header channel name bitrate (Some id)
  pub fits : unfit (channel_of log) channel (Some id) name bitrate ≡ None

-- ---- answers

-- The file was begun: nothing refuses the input, its header is the store's, and on a disk that tells its contents the header was written, and a
-- front of the texts behind it.
pub record IsBegun (told : Type 0) (log : List Entry) (b name : List ℕ) (bitrate : ℕ) (held held' : Option (List ℕ)) : Type 0 where
  pub clear : input_refusal b ≡ None
  pub fits : IsFit b log name bitrate
  pub front : told → (text : List ℕ) × (e : IsExportText b log name bitrate text) × (n : ℕ)
      × Appends held held' (e.header ++ take n (texts_from 1 e.id (quality log name bitrate)))

-- The same, where the output failed: any front of the file was written.
pub record IsStopped (told : Type 0) (log : List Entry) (b name : List ℕ) (bitrate : ℕ) (held held' : Option (List ℕ)) : Type 0 where
  pub clear : input_refusal b ≡ None
  pub fits : IsFit b log name bitrate
  pub front : told → (text : List ℕ) × IsExportText b log name bitrate text × AppendsFront held held' text

-- The same, where all of it was written.
pub record IsDone (told : Type 0) (log : List Entry) (b name : List ℕ) (bitrate : ℕ) (held held' : Option (List ℕ)) (written : ℕ) : Type 0 where
  pub clear : input_refusal b ≡ None
  pub fits : IsFit b log name bitrate
  pub whole : told → (text : List ℕ) × IsExportText b log name bitrate text × Appends held held' text × (written ≡ length (quality log name bitrate))

-- what the answers say; `told` is that the disk tells its contents
abbrev pub ExportedAs : Type 0 → List Entry → List ℕ → List ℕ → ℕ → Option (List ℕ) → Option (List ℕ) → Exported → Type 0
ExportedAs told log b name bitrate held held' (exported.Done written) = IsDone told log b name bitrate held held' written
ExportedAs told log b name bitrate held held' (exported.Input r) = (input_refusal b ≡ Some r) × Appends held held' []
ExportedAs told log b name bitrate held held' (exported.Other c) = (input_refusal b ≡ None) × IsUnfit b log name bitrate c × Appends held held' []
ExportedAs told log b name bitrate held held' exported.DiskFault = IsBegun told log b name bitrate held held'
ExportedAs told log b name bitrate held held' exported.Damaged = (told → ⊥) × IsBegun told log b name bitrate held held'
ExportedAs told log b name bitrate held held' exported.WriteFault = IsStopped told log b name bitrate held held'
ExportedAs told log b name bitrate held held' (exported.NoMemory false) = Appends held held' []
ExportedAs told log b name bitrate held held' (exported.NoMemory true) = IsBegun told log b name bitrate held held'
