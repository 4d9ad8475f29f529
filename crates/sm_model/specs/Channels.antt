-- Tracks and channels, and which channels are valid.
use Rattle.std.specs.Prelude.{◌≡◌, ◌≢◌, ◌≤◌, ◌<◌, ◌^◌, ◌&&◌, ◌||◌, ◌==◌, ℕ, Bool, List, Option, length, nat_le, IsTrue, All, AllPairs}
use Rattle.std.specs.List.{list_all}
use Rattle.std.specs.Option.{ForSome}
use Rattle.hex.specs.Hex.{IsBytes}
use Rattle.sm_model.specs.declared.track.Params.{Params}
use Rattle.sm_model.specs.declared.track.Track.{Track}
use Rattle.sm_model.specs.declared.smil.SmilTrack.{SmilTrack}
use Rattle.sm_model.specs.Names.{is_within, is_name}

-- an ASCII letter or digit, `-`, `_` or a space
abbrev pub is_fourcc_byte : ℕ → Bool
is_fourcc_byte c =
    is_within 48 57 c || (is_within 97 122 c || (is_within 65 90 c || (c == 45 || (c == 95 || c == 32))))

-- at most four such bytes; none stand for a codec that was not declared
abbrev pub is_fourcc : List ℕ → Bool
is_fourcc b = nat_le (length b) 4 && list_all is_fourcc_byte b

pub record IsTrack (t : Track) : Type 0 where
  pub ticks : 0 < t.timescale
  pub fourcc : IsTrue (is_fourcc t.fourcc)
  pub short : length t.private ≤ 32768

-- tracks of one name are qualities of one stream: they differ by bitrate, and agree in kind and timescale
pub record Agree (a b : Track) : Type 0 where
  pub apart : a.name ≡ b.name → a.bitrate ≢ b.bitrate
  pub kind : a.name ≡ b.name → a.kind ≡ b.kind
  pub timescale : a.name ≡ b.name → a.timescale ≡ b.timescale

-- a valid channel
pub record IsChannel (tracks : List Track) : Type 0 where
  pub some : 0 < length tracks
  pub few : length tracks ≤ 64
  pub each : All IsTrack tracks
  pub agree : AllPairs Agree tracks

-- both have the same kind, stream, bitrate and timescale
pub record IsOfOneQuality (a b : Track) : Type 0 where
  pub kind : a.kind ≡ b.kind
  pub name : a.name ≡ b.name
  pub bitrate : a.bitrate ≡ b.bitrate
  pub timescale : a.timescale ≡ b.timescale

-- both have the same picture and the same tag of an audio format
pub record IsOfOnePicture (a b : Params) : Type 0 where
  pub width : a.width ≡ b.width
  pub height : a.height ≡ b.height
  pub tag : a.tag ≡ b.tag

-- both have the same sound
pub record IsOfOneSound (a b : Params) : Type 0 where
  pub channels : a.channels ≡ b.channels
  pub rate : a.rate ≡ b.rate
  pub bits : a.bits ≡ b.bits
  pub packet : a.packet ≡ b.packet

-- both have the same codec, with its data and numbers
pub record IsOfOneCodec (a b : Track) : Type 0 where
  pub fourcc : a.fourcc ≡ b.fourcc
  pub private : a.private ≡ b.private
  pub numbers : a.numbers ≡ b.numbers

-- a number of 32 bits, where there is one
abbrev pub IsNarrowOption : Option ℕ → Type 0
IsNarrowOption n = ForSome n (λ v. v < 2 ^ 32)

pub record AreNarrow (p : Params) : Type 0 where
  pub width : IsNarrowOption p.width
  pub height : IsNarrowOption p.height
  pub tag : IsNarrowOption p.tag
  pub channels : IsNarrowOption p.channels
  pub rate : IsNarrowOption p.rate
  pub bits : IsNarrowOption p.bits
  pub packet : IsNarrowOption p.packet

-- the track's name is one, its numbers have 32 bits and its data are bytes, as those of a real track are
pub record IsNarrowTrack (t : Track) : Type 0 where
  pub name : IsTrue (is_name t.name)
  pub bitrate : t.bitrate < 2 ^ 32
  pub timescale : t.timescale < 2 ^ 32
  pub private : IsBytes t.private
  pub numbers : AreNarrow t.numbers

-- a track that is valid once it has a timescale
pub record IsUntimed (t : Track) : Type 0 where
  pub fourcc : IsTrue (is_fourcc t.fourcc)
  pub short : length t.private ≤ 32768

-- tracks of a pushed header have a track_ID each, and those of one name differ by bitrate and agree in kind
pub record Differ (a b : SmilTrack) : Type 0 where
  pub id : a.id ≢ b.id
  pub apart : a.track.name ≡ b.track.name → a.track.bitrate ≢ b.track.bitrate
  pub kind : a.track.name ≡ b.track.name → a.track.kind ≡ b.track.kind

-- the tracks of a pushed header, which are a valid channel once each has a timescale and each name has one
pub record IsSmil (tracks : List SmilTrack) : Type 0 where
  pub some : 0 < length tracks
  pub few : length tracks ≤ 64
  pub each : All (λ s. IsUntimed s.track) tracks
  pub differ : AllPairs Differ tracks
