-- The fields of the two entries of a log, in their order, as they stand in a record's body behind its first byte.
use Rattle.std.specs.Prelude.{ℕ, Bool, List, [], ◌∷◌, ◌++◌, length, Option, None, Some, if◌then◌else◌}
use Rattle.std.specs.Int.{w16, to_be_bytes}
use Rattle.std.specs.List.{flat_map}
use Rattle.sm_model.specs.declared.track.Kind.{Kind}
use Rattle.sm_model.specs.declared.track.Kind.TheVariants.{Video, Audio, Text}
use Rattle.sm_model.specs.declared.track.Params.{Params}
use Rattle.sm_model.specs.declared.track.Track.{Track}
use Rattle.sm_model.specs.declared.sample.Sample.{Sample}
use Rattle.sm_model.specs.declared.fragment.Fragment.{Fragment}
use Rattle.sm_model.specs.Numbers.{number32, number64}

-- the two bytes of a number
unfoldable pub number16 : ℕ → List ℕ
number16 n = to_be_bytes w16 n

abbrev pub kind_byte : Kind → ℕ
kind_byte Video = 1
kind_byte Audio = 2
kind_byte Text = 3

-- one byte of length, and so many bytes
abbrev pub short_text : List ℕ → List ℕ
short_text b = length b ∷ b

-- four bytes of length, and so many bytes
abbrev pub long_text : List ℕ → List ℕ
long_text b = number32 (length b) ++ b

-- a flag, and the number where there is one
abbrev pub option_text : Option ℕ → List ℕ
option_text None = 0 ∷ []
option_text (Some n) = 1 ∷ number32 n

-- width, height, tag, channels, rate, bits, packet
unfoldable pub params_text : Params → List ℕ
params_text p =
    option_text p.width
    ++ (option_text p.height
    ++ (option_text p.tag ++ (option_text p.channels ++ (option_text p.rate ++ (option_text p.bits ++ option_text p.packet)))))

-- kind, name, bitrate, timescale, FourCC, private data, numbers
unfoldable pub track_text : Track → List ℕ
track_text t =
    kind_byte t.kind
    ∷ (short_text t.name
    ++ (number32 t.bitrate
    ++ (number32 t.timescale ++ (short_text t.fourcc ++ (long_text t.private ++ params_text t.numbers)))))

-- what an entry Declare has: the number of tracks, and the tracks
unfoldable pub declare_text : List Track → List ℕ
declare_text tracks = number16 (length tracks) ++ flat_map track_text tracks

-- duration, flags, offset, size
unfoldable pub row_text : Sample → List ℕ
row_text s = number32 s.duration ++ (number32 s.flags ++ (number32 s.offset ++ number32 (length s.bytes)))

abbrev pub flag_text : Bool → List ℕ
flag_text b = (if b then 1 else 0) ∷ []

-- What an entry Keep has: the track's place in the channel, the fragment's numbers, a row for each sample, and then the
-- bytes of all samples.
unfoldable pub keep_text : ℕ → Fragment → List ℕ
keep_text place f =
    number32 place
    ++ (number64 f.time
    ++ (number64 f.duration
    ++ (flag_text f.signed
    ++ (number32 (length f.samples) ++ (flat_map row_text f.samples ++ flat_map (λ s. s.bytes) f.samples)))))
