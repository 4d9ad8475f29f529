-- The manifest of a channel, as it is written ([MS-SSTR] 2.2.2).
use Rattle.std.specs.Prelude.{ℕ, ◌+◌, ◌==◌, ◌&&◌, ◌||◌, Bool, List, [], ◌∷◌, ◌++◌, length, Option, Some, None, if◌then◌else◌, codes}
use Rattle.std.specs.Char.{is_ascii_alphanumeric}
use Rattle.std.specs.Fmt.{decimal}
use Rattle.std.specs.List.{list_any, flat_map}
use Rattle.hex.specs.Hex.{encode_upper}
use Rattle.percent_encoding.specs.Percent.{percent_encode_byte}
use Rattle.sm_model.specs.declared.track.Params.{Params}
use Rattle.sm_model.specs.declared.track.Track.{Track}
use Rattle.sm_model.specs.Same.{is_same}
use Rattle.sm_model.specs.Kinds.{kind_name}
use Rattle.sm_log.specs.Adds.{tracks_of}
use Rattle.sm_manin.specs.RunTimes.{expand}

-- ---- runs

-- times of equal duration, each of which starts where the one before it ends
pub record TimeRun : Type 0 where
  pub start : ℕ
  pub duration : ℕ
  pub count : ℕ

abbrev pub follows : ℕ × ℕ → ℕ × ℕ → Bool
follows last x = x.1 == last.1 && x.0 == last.0 + last.1

-- a run that has begun and whose last time is known, and the runs behind it
abbrev pub runs_from : ℕ → ℕ → ℕ × ℕ → List (ℕ × ℕ) → List TimeRun
runs_from start count last [] = (record { start = start; duration = last.1; count = count }) ∷ []
runs_from start count last (x ∷ xs) =
    if follows last x then runs_from start (count + 1) x xs
    else (record { start = start; duration = last.1; count = count }) ∷ runs_from x.0 1 x xs

-- the times cut into runs, each as long as it can be
abbrev pub runs : List (ℕ × ℕ) → List TimeRun
runs [] = []
runs (x ∷ xs) = runs_from x.0 1 x xs

-- the times that runs stand for
abbrev pub run_times : List TimeRun → List (ℕ × ℕ)
run_times [] = []
run_times (r ∷ rs) = expand r.start r.duration r.count ++ run_times rs

-- ---- attributes

unfoldable pub attribute : List ℕ → List ℕ → List ℕ
attribute name value = codes " " ++ (name ++ (codes "=\"" ++ (value ++ codes "\"")))

abbrev pub number_attribute : List ℕ → ℕ → List ℕ
number_attribute name n = attribute name (decimal n)

-- left out where the number isn't there
abbrev pub option_attribute : List ℕ → Option ℕ → List ℕ
option_attribute name None = []
option_attribute name (Some n) = number_attribute name n

-- left out where the value is empty
abbrev pub text_attribute : List ℕ → List ℕ → List ℕ
text_attribute name [] = []
text_attribute name (c ∷ cs) = attribute name (c ∷ cs)

-- ---- escaped names

-- an ASCII letter or digit, `_`, `-` or `.`, which stands for itself
abbrev pub is_plain : ℕ → Bool
is_plain b = is_ascii_alphanumeric b || b == 95 || b == 45 || b == 46

-- every byte that isn't plain is escaped, with upper-case digits
abbrev pub escaped : List ℕ → List ℕ
escaped bytes = flat_map (λ b. if is_plain b then b ∷ [] else percent_encode_byte b) bytes

-- ---- lines

unfoldable pub run_line : TimeRun → List ℕ
run_line r =
    codes "<c" ++ (number_attribute (codes "t") r.start ++ (number_attribute (codes "d") r.duration ++
    ((if r.count == 1 then [] else number_attribute (codes "r") r.count) ++ codes "/>\n")))

abbrev pub run_lines : List TimeRun → List ℕ
run_lines rs = flat_map run_line rs

unfoldable pub number_attributes : Params → List ℕ
number_attributes n =
    option_attribute (codes "MaxWidth") n.width ++ (option_attribute (codes "MaxHeight") n.height ++
    (option_attribute (codes "AudioTag") n.tag ++ (option_attribute (codes "Channels") n.channels ++
    (option_attribute (codes "SamplingRate") n.rate ++ (option_attribute (codes "BitsPerSample") n.bits ++ option_attribute (codes "PacketSize") n.packet)))))

unfoldable pub level_line : ℕ → Track → List ℕ
level_line index t =
    codes "<QualityLevel" ++ (number_attribute (codes "Index") index ++
    (number_attribute (codes "Bitrate") t.bitrate ++ (text_attribute (codes "FourCC") t.fourcc ++
    (attribute (codes "CodecPrivateData") (encode_upper t.private) ++ (number_attributes t.numbers ++ codes "/>\n")))))

-- the tracks of that stream, from that Index on
abbrev pub level_lines : ℕ → List ℕ → List Track → List ℕ
level_lines index name [] = []
level_lines index name (t ∷ ts) =
    if is_same t.name name then level_line index t ++ level_lines (index + 1) name ts else level_lines index name ts

unfoldable pub url : List ℕ → List ℕ
url name = codes "QualityLevels({bitrate})/Fragments(" ++ (escaped name ++ codes "={start time})")

unfoldable pub stream_opening : Track → ℕ → ℕ → List ℕ
stream_opening t chunks levels =
    codes "<StreamIndex" ++ (attribute (codes "Type") (kind_name t.kind) ++
    (attribute (codes "Name") t.name ++ (number_attribute (codes "TimeScale") t.timescale ++
    (number_attribute (codes "Chunks") chunks ++ (number_attribute (codes "QualityLevels") levels ++ (attribute (codes "Url") (url t.name) ++ codes ">\n"))))))

-- the stream whose first track this is
unfoldable pub stream_lines : List Track → List (ℕ × ℕ) → Track → List ℕ
stream_lines channel times t =
    stream_opening t (length times) (length (tracks_of t.name channel)) ++ (level_lines 0 t.name channel ++ (run_lines (runs times) ++ codes "</StreamIndex>\n"))

-- the streams whose first tracks stand in the second list, behind the tracks of the first
abbrev pub streams_lines : List Track → (List ℕ → List (ℕ × ℕ)) → List Track → List Track → List ℕ
streams_lines channel times earlier [] = []
streams_lines channel times earlier (t ∷ ts) =
    (if list_any (λ u. is_same u.name t.name) earlier then [] else stream_lines channel (times t.name) t) ++ streams_lines channel times (earlier ++ t ∷ []) ts

abbrev pub manifest_head : List ℕ
manifest_head =
    codes "<?xml version=\"1.0\" encoding=\"utf-8\"?>\n"
    ++ (codes "<SmoothStreamingMedia MajorVersion=\"2\" MinorVersion=\"2\" TimeScale=\"10000000\""
    ++ codes " Duration=\"0\" IsLive=\"TRUE\" LookAheadFragmentCount=\"2\" DVRWindowLength=\"0\">\n")

abbrev pub manifest_foot : List ℕ
manifest_foot = codes "</SmoothStreamingMedia>\n"

-- the manifest of a channel of whose streams these times are listed
unfoldable pub manifest : List Track → (List ℕ → List (ℕ × ℕ)) → List ℕ
manifest channel times = manifest_head ++ (streams_lines channel times [] channel ++ manifest_foot)
