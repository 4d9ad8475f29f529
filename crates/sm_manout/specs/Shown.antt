-- What a part of a manifest lists, read by whole lines as a player reads it that has only the part.
use Rattle.std.specs.Prelude.{◌≡◌, ◌<◌, ◌^◌, ℕ, true, zero, suc, ◌+◌, ◌==◌, Bool, List, [], ◌∷◌, ◌++◌, length, drop, map, Option, Some, None, option_to_list, unwrap_or, slice_get, if◌then◌else◌, codes, nat_eq}
use Rattle.std.specs.List.{flat_map, starts_with}
use Rattle.sm_model.specs.declared.address.Address.{Address}
use Rattle.sm_model.specs.declared.track.Track.{Track}
use Rattle.sm_model.specs.Channels.{AreNarrow}
use Rattle.sm_model.specs.Digits.{wide_number_of}
use Rattle.sm_model.specs.Same.{is_same}
use Rattle.sm_model.specs.Names.{is_name}
use Rattle.sm_manin.specs.Values.{wide_in, narrow_in}

-- ---- lines and attributes

-- the pieces of a text that such a byte ends, without it; what stands behind the last of them isn't whole
abbrev pub ended_by : ℕ → List ℕ → List ℕ → List (List ℕ)
ended_by mark piece [] = []
ended_by mark piece (c ∷ cs) =
    if c == mark then piece ∷ ended_by mark [] cs else ended_by mark (piece ++ c ∷ []) cs

abbrev pub whole_lines : List ℕ → List (List ℕ)
whole_lines text = ended_by 10 [] text

-- a tag cut at its quotes: what stands before a value, and the value, in turn
abbrev pub quoted : List ℕ → List (List ℕ) → Option (List ℕ)
quoted lead [] = None
quoted lead (x ∷ []) = None
quoted lead (x ∷ value ∷ more) = if is_same x lead then Some value else quoted lead more

-- whether a line is a start tag of that name, which is written with its `<`
abbrev pub is_tag : List ℕ → List ℕ → Bool
is_tag tag line = starts_with nat_eq line (tag ++ codes " ")

-- the value of an attribute, by what stands before its quote
abbrev pub value_of : List ℕ → List ℕ → List ℕ → Option (List ℕ)
value_of tag lead line = quoted lead (ended_by 34 [] (drop (length tag) line))

-- ---- manifests

-- the name and the bitrates of the stream whose lines are read
pub record Open : Type 0 where
  pub stream : List ℕ
  pub bitrates : List ℕ

abbrev pub none_open : Open
none_open = record { stream = []; bitrates = [] }

abbrev pub stream_name : List ℕ → List ℕ
stream_name line =
    unwrap_or (value_of (codes "<StreamIndex") (codes " Name=") line) (unwrap_or (value_of (codes "<StreamIndex") (codes " Type=") line) [])

abbrev pub line_bitrates : List ℕ → List ℕ
line_bitrates line = option_to_list (narrow_in (value_of (codes "<QualityLevel") (codes " Bitrate=") line))

-- a line more
unfoldable pub after_line : Open → List ℕ → Open
after_line o line =
    if is_tag (codes "<StreamIndex") line then record { stream = stream_name line; bitrates = [] }
    else if is_tag (codes "<QualityLevel") line then record { stream = o.stream; bitrates = o.bitrates ++ line_bitrates line }
    else o

-- so many times of equal duration, each starting where the one before it ends
abbrev pub run_starts : ℕ → ℕ → ℕ → List ℕ
run_starts zero start duration = []
run_starts (suc n) start duration = start ∷ run_starts n (start + duration) duration

abbrev pub count_in : Option (List ℕ) → Option ℕ
count_in None = Some 1
count_in (Some text) = wide_number_of text

abbrev pub starts_by : Option ℕ → Option ℕ → Option ℕ → List ℕ
starts_by (Some start) (Some duration) (Some count) = run_starts count start duration
starts_by (Some start) (Some duration) None = []
starts_by (Some start) None count = []
starts_by None duration count = []

-- the starts of the times that a line stands for; none where it isn't a `c`
unfoldable pub line_starts : List ℕ → List ℕ
line_starts line =
    if is_tag (codes "<c") line
    then
    starts_by (wide_in (value_of (codes "<c") (codes " t=") line)) (wide_in (value_of (codes "<c") (codes " d=") line))
    (count_in (value_of (codes "<c") (codes " r=") line))
    else []

abbrev pub at_bitrates : Open → ℕ → List Address
at_bitrates o start = map (λ b. record { stream = o.stream; bitrate = b; time = start }) o.bitrates

-- the addresses that these lines list: each time of each `c`, with each quality of its stream
abbrev pub lists_from : Open → List (List ℕ) → List Address
lists_from o [] = []
lists_from o (line ∷ lines) = flat_map (at_bitrates o) (line_starts line) ++ lists_from (after_line o line) lines

abbrev pub lists : List ℕ → List Address
lists part = lists_from none_open (whole_lines part)

abbrev pub ListsIn : List ℕ → Address → Type 0
ListsIn part a = (i : ℕ) × (slice_get (lists part) i ≡ Some a)

-- ---- what is written

-- the track's name is one, and its numbers have 32 bits, as those of each real track
pub record IsWritable (t : Track) : Type 0 where
  pub name : is_name t.name ≡ true
  pub bitrate : t.bitrate < 2 ^ 32
  pub timescale : t.timescale < 2 ^ 32
  pub numbers : AreNarrow t.numbers
