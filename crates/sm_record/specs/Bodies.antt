-- Which bytes are the body of an entry. A body of version 2 ends with the SHA-256 (FIPS 180-4, 6.2) of all bytes before.
use Rattle.std.specs.Prelude.{◌≡◌, ◌⊎◌, ◌<◌, ◌^◌, ◌+◌, ◌*◌, ℕ, true, List, ◌∷◌, ◌++◌, length, Option, None, Some}
use Rattle.std.specs.List.{AllByRecursion}
use Rattle.sha2.specs.Sha256.{sha256}
use Rattle.sm_model.specs.declared.track.Track.{Track}
use Rattle.sm_model.specs.declared.fragment.Fragment.{Fragment}
use Rattle.sm_model.specs.declared.entry.Entry.{Entry}
use Rattle.sm_model.specs.declared.entry.Entry.TheVariants.{Declare, Keep}
use Rattle.sm_model.specs.Names.{is_name}
use Rattle.sm_model.specs.Fragments.{IsNarrow, sample_bytes}
use Rattle.sm_model.specs.Channels.{AreNarrow}
use Rattle.sm_model.specs.Entries.{address_of}
use Rattle.sm_record.specs.Places.{IsPlaceOf}
use Rattle.sm_record.specs.Texts.{declare_text, keep_text}

-- a track whose name is one, and whose parts fit their fields
pub record FitsTrack (t : Track) : Type 0 where
  pub name : is_name t.name ≡ true
  pub bitrate : t.bitrate < 2 ^ 32
  pub timescale : t.timescale < 2 ^ 32
  pub fourcc : length t.fourcc < 2 ^ 8
  pub private : length t.private < 2 ^ 32
  pub numbers : AreNarrow t.numbers

-- the fields of a channel
pub record IsDeclare (tracks : List Track) (fields : List ℕ) : Type 0 where
  pub few : length tracks < 2 ^ 16
  pub each : AllByRecursion FitsTrack tracks
  pub text : fields ≡ declare_text tracks

-- the fields of a fragment, whose track stands at that place of the channel
pub record IsKeep (channel : List Track) (f : Fragment) (fields : List ℕ) : Type 0 where
  pub place : ℕ
  pub of : IsPlaceOf channel (address_of f) place
  pub low : place < 2 ^ 32
  pub time : f.time < 2 ^ 64
  pub duration : f.duration < 2 ^ 64
  pub few : length f.samples < 2 ^ 32
  pub each : AllByRecursion IsNarrow f.samples
  pub text : fields ≡ keep_text place f

-- the fields of an entry; without a channel no bytes are those of a fragment
abbrev pub HasFields : Option (List Track) → Entry → List ℕ → Type 0
HasFields channel (Declare tracks) fields = IsDeclare tracks fields
HasFields (Some channel) (Keep f) fields = IsKeep channel f fields
HasFields None (Keep f) fields = ⊥

-- the first byte by version
abbrev pub plain_byte : Entry → ℕ
plain_byte (Declare tracks) = 0x01
plain_byte (Keep f) = 0x02

abbrev pub sealed_byte : Entry → ℕ
sealed_byte (Declare tracks) = 0x11
sealed_byte (Keep f) = 0x12

-- bytes and their digest
abbrev pub sealed : List ℕ → List ℕ
sealed bytes = bytes ++ sha256 bytes

pub record IsPlainBody (channel : Option (List Track)) (entry : Entry) (body : List ℕ) : Type 0 where
  pub fields : List ℕ
  pub has : HasFields channel entry fields
  pub is : body ≡ plain_byte entry ∷ fields

pub record IsSealedBody (channel : Option (List Track)) (entry : Entry) (body : List ℕ) : Type 0 where
  pub fields : List ℕ
  pub has : HasFields channel entry fields
  pub is : body ≡ sealed (sealed_byte entry ∷ fields)

-- in version 1 or in version 2
abbrev pub IsBody : Option (List Track) → Entry → List ℕ → Type 0
IsBody channel entry body = IsPlainBody channel entry body ⊎ IsSealedBody channel entry body

-- how long the body of version 2 is: a first byte, the fields and the digest
abbrev pub body_len : Entry → ℕ
body_len (Declare tracks) = 33 + length (declare_text tracks)
body_len (Keep f) = 58 + 16 * length f.samples + sample_bytes f.samples
