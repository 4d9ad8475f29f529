-- The live manifest of a channel, as it is written.
use Rattle.std.specs.Prelude.{ℕ, ◌+◌, List, [], ◌∷◌, ◌++◌, Option, Some, None, codes}
use Rattle.std.specs.Fmt.{decimal}
use Rattle.hex.specs.Hex.{encode_upper}
use Rattle.sm_model.specs.declared.track.Kind.{Kind}
use Rattle.sm_model.specs.declared.track.Kind.TheVariants.{Video, Audio, Text}
use Rattle.sm_model.specs.declared.track.Params.{Params}
use Rattle.sm_model.specs.declared.track.Track.{Track}

-- a line for one param
unfoldable pub param_line : List ℕ → List ℕ → List ℕ
param_line name value =
    codes "<param name=\"" ++ (name ++ (codes "\" value=\"" ++ (value ++ codes "\" valuetype=\"data\"/>\n")))

abbrev pub number_line : List ℕ → ℕ → List ℕ
number_line name n = param_line name (decimal n)

-- left out where the number isn't there
abbrev pub option_line : List ℕ → Option ℕ → List ℕ
option_line name None = []
option_line name (Some n) = number_line name n

unfoldable pub number_lines : Params → List ℕ
number_lines n =
    option_line (codes "MaxWidth") n.width
    ++ (option_line (codes "MaxHeight") n.height
    ++ (option_line (codes "AudioTag") n.tag
    ++ (option_line (codes "Channels") n.channels
    ++ (option_line (codes "SamplingRate") n.rate
    ++ (option_line (codes "BitsPerSample") n.bits ++ option_line (codes "PacketSize") n.packet)))))

abbrev pub element_name : Kind → List ℕ
element_name Video = codes "video"
element_name Audio = codes "audio"
element_name Text = codes "textstream"

unfoldable pub opening_line : Kind → ℕ → List ℕ
opening_line kind bitrate =
    codes "<" ++ (element_name kind ++ (codes " src=\"Streams\" systemBitrate=\"" ++ (decimal bitrate ++ codes "\">\n")))

unfoldable pub closing_line : Kind → List ℕ
closing_line kind = codes "</" ++ (element_name kind ++ codes ">\n")

-- a track with its track_ID
unfoldable pub track_lines : ℕ → Track → List ℕ
track_lines id t =
    opening_line t.kind t.bitrate
    ++ (number_line (codes "trackID") id
    ++ (param_line (codes "trackName") t.name
    ++ (number_line (codes "TimeScale") t.timescale
    ++ (param_line (codes "FourCC") t.fourcc
    ++ (param_line (codes "CodecPrivateData") (encode_upper t.private) ++ (number_lines t.numbers ++ closing_line t.kind))))))

-- tracks whose track_IDs begin at id
abbrev pub tracks_lines : ℕ → List Track → List ℕ
tracks_lines id [] = []
tracks_lines id (t ∷ ts) = track_lines id t ++ tracks_lines (id + 1) ts

abbrev pub head_lines : List ℕ
head_lines =
    codes "<?xml version=\"1.0\" encoding=\"utf-8\"?>\n<smil xmlns=\"http://www.w3.org/2001/SMIL20/Language\">\n<head/>\n<body>\n<switch>\n"

abbrev pub foot_lines : List ℕ
foot_lines = codes "</switch>\n</body>\n</smil>\n"

-- track_IDs are the places in the channel plus 1
unfoldable pub live_text : List Track → List ℕ
live_text channel = head_lines ++ (tracks_lines 1 channel ++ foot_lines)
