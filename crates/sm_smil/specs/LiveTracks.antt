-- What a track of a live manifest says, by its attribute and its params.
use Rattle.std.specs.Prelude.{ℕ, ◌%◌, Bool, List, [], ◌∷◌, length, Option, Some, None, unwrap_or, nat_lt, nat_le, ◌==◌, ◌&&◌, if◌then◌else◌}
use Rattle.std.specs.List.{list_all}
use Rattle.std.specs.Result.{result_unwrap_or}
use Rattle.hex.specs.Hex.{is_hex_digit, decode_of}
use Rattle.sm_model.specs.declared.track.Params.{Params}
use Rattle.sm_model.specs.declared.track.Track.{Track}
use Rattle.sm_model.specs.declared.smil.SmilTrack.{SmilTrack}
use Rattle.sm_smil.specs.declared.raw_track.ParamName.{ParamName}
use Rattle.sm_smil.specs.declared.raw_track.ParamName.TheVariants.{SystemBitrate, TrackId, TrackName, TimeScale, FourCc, CodecPrivateData, MaxWidth, MaxHeight}
use Rattle.sm_smil.specs.declared.raw_track.ParamName.TheVariants.{AudioTag, Channels, SamplingRate, BitsPerSample, PacketSize}
use Rattle.sm_smil.specs.declared.raw_track.SmilParam.{SmilParam}
use Rattle.sm_smil.specs.declared.raw_track.RawTrack.{RawTrack}
use Rattle.sm_model.specs.Digits.{is_number, number_of, decimal_from}
use Rattle.sm_model.specs.Names.{is_name}
use Rattle.sm_model.specs.Channels.{is_fourcc}
use Rattle.sm_model.specs.Kinds.{kind_name}

-- the place of a name in the list of names
abbrev pub index_of : ParamName → ℕ
index_of SystemBitrate = 0
index_of TrackId = 1
index_of TrackName = 2
index_of TimeScale = 3
index_of FourCc = 4
index_of CodecPrivateData = 5
index_of MaxWidth = 6
index_of MaxHeight = 7
index_of AudioTag = 8
index_of Channels = 9
index_of SamplingRate = 10
index_of BitsPerSample = 11
index_of PacketSize = 12

-- the value of the first param of that name
abbrev pub value_of : ParamName → List SmilParam → Option (List ℕ)
value_of name [] = None
value_of name (p ∷ ps) = if index_of p.name == index_of name then Some p.value else value_of name ps

-- an even number of hexadecimal digits, at most 65,536 of them
unfoldable pub is_private : List ℕ → Bool
is_private b = nat_le (length b) 65536 && (length b % 2 == 0 && list_all is_hex_digit b)

-- a number from 1 on
unfoldable pub is_timescale : List ℕ → Bool
is_timescale b = is_number b && nat_lt 0 (decimal_from 0 b)

-- whether a value is one that its name can have
unfoldable pub is_fit : ParamName → List ℕ → Bool
is_fit SystemBitrate b = is_number b
is_fit TrackId b = is_number b
is_fit TrackName b = is_name b
is_fit TimeScale b = is_timescale b
is_fit FourCc b = is_fourcc b
is_fit CodecPrivateData b = is_private b
is_fit MaxWidth b = is_number b
is_fit MaxHeight b = is_number b
is_fit AudioTag b = is_number b
is_fit Channels b = is_number b
is_fit SamplingRate b = is_number b
is_fit BitsPerSample b = is_number b
is_fit PacketSize b = is_number b

abbrev pub stream_name : RawTrack → List ℕ
stream_name t = unwrap_or (value_of TrackName t.params) (kind_name t.kind)

-- the bitrate is the attribute, else the param
abbrev pub bitrate_text : Option (List ℕ) → List SmilParam → Option (List ℕ)
bitrate_text (Some text) params = Some text
bitrate_text None params = value_of SystemBitrate params

abbrev pub number_in : Option (List ℕ) → Option ℕ
number_in None = None
number_in (Some text) = number_of text

abbrev pub bitrate_of : RawTrack → Option ℕ
bitrate_of t = number_in (bitrate_text t.bitrate t.params)

abbrev pub track_id_of : RawTrack → Option ℕ
track_id_of t = number_in (value_of TrackId t.params)

-- a timescale, where the text is one
abbrev pub ticks_of : List ℕ → Option ℕ
ticks_of b = if is_timescale b then number_of b else None

-- in ticks a second; 10,000,000 where a ladder doesn't say it
abbrev pub timescale_in : Option (List ℕ) → Option ℕ
timescale_in None = Some 10000000
timescale_in (Some text) = ticks_of text

abbrev pub timescale_of : RawTrack → Option ℕ
timescale_of t = timescale_in (value_of TimeScale t.params)

abbrev pub bytes_in : Option (List ℕ) → List ℕ
bytes_in None = []
bytes_in (Some digits) = result_unwrap_or (decode_of digits) []

-- the numbers that a decoder wants
unfoldable pub numbers_of : RawTrack → Params
numbers_of t = record {
  width = number_in (value_of MaxWidth t.params);
  height = number_in (value_of MaxHeight t.params);
  tag = number_in (value_of AudioTag t.params);
  channels = number_in (value_of Channels t.params);
  rate = number_in (value_of SamplingRate t.params);
  bits = number_in (value_of BitsPerSample t.params);
  packet = number_in (value_of PacketSize t.params);
}

-- the track, with this timescale
unfoldable pub track_of : ℕ → RawTrack → Track
track_of timescale t = record {
  kind = t.kind;
  name = stream_name t;
  bitrate = unwrap_or (bitrate_of t) 0;
  timescale = timescale;
  fourcc = unwrap_or (value_of FourCc t.params) [];
  private = bytes_in (value_of CodecPrivateData t.params);
  numbers = numbers_of t;
}

-- a track of a pushed header, whose timescale isn't known yet
abbrev pub smil_track : RawTrack → SmilTrack
smil_track t = record { id = unwrap_or (track_id_of t) 0; track = track_of 0 t }

-- a track of a ladder
abbrev pub ladder_track : RawTrack → Track
ladder_track t = track_of (unwrap_or (timescale_of t) 0) t
