-- Where each byte behind a head stands, byte by byte: the next place follows from the place and the byte. RFC 9112, sections 6.2, 7.1.
use Rattle.std.specs.Prelude.{◌≡◌, ℕ, ◌+◌, ◌-◌, ◌*◌, ◌^◌, Bool, ◌&&◌, ◌||◌, true, false, ◌==◌, nat_lt, List, [], ◌∷◌, ◌++◌, fold, if◌then◌else◌}
use Rattle.std.specs.Char.{is_digit, digit_value}
use Rattle.sm_model.specs.declared.framing.Framing.{Framing}
use Rattle.sm_model.specs.declared.framing.Framing.TheVariants as framing
use Rattle.sm_body.specs.declared.place.Place.{Place}
use Rattle.sm_body.specs.declared.place.Place.TheVariants.{Counted, Digits, Pad, Extension, LineFeed, Data, DataReturn, DataFeed, TrailerStart, TrailerStartReturn, TrailerLine, TrailerLineReturn, Ended, Failed}

-- a space or a tab
abbrev pub is_white : ℕ → Bool
is_white c = c == 32 || c == 9

-- behind the digits of a chunk line, of which so many bytes came: CR, white space, or `;`
abbrev pub behind_digits : ℕ → ℕ → ℕ → Place
behind_digits line size c =
    if c == 13 then LineFeed size else
    if is_white c then Pad (line + 1) size else
    if c == 59 then Extension (line + 1) size else Failed

-- at the digits of a chunk line, of which there are 1 to 15
abbrev pub in_digits : ℕ → ℕ → ℕ → Place
in_digits count size c =
    if is_digit c 16
    then (if nat_lt count 15 && nat_lt size (2 ^ 56) then Digits (count + 1) (size * 16 + digit_value c) else Failed)
    else (if nat_lt 0 count && nat_lt count 255 then behind_digits count size c else Failed)

-- at the white space, or at the extension, of a chunk line of which so many bytes came: its 256th is its last
abbrev pub in_pad : ℕ → ℕ → ℕ → Place
in_pad line size c =
    if nat_lt line 255 && c == 13 then LineFeed size else
    if nat_lt line 255 && is_white c then Pad (line + 1) size else Failed

abbrev pub in_extension : ℕ → ℕ → ℕ → Place
in_extension line size c =
    if c == 10 then Failed else
    if nat_lt line 255 && c == 13 then LineFeed size else
    if nat_lt line 255 then Extension (line + 1) size else Failed

-- where data or the trailer begins, behind a chunk line of that size
abbrev pub behind_line : ℕ → Place
behind_line size = if size == 0 then TrailerStart 0 else Data size

-- behind the CR of a chunk line
abbrev pub behind_return : ℕ → ℕ → Place
behind_return size c = if c == 10 then behind_line size else Failed

-- behind a byte of the trailer that doesn't end it: its 8,192nd is its last
abbrev pub unless_full : ℕ → Place → Place
unless_full count place = if nat_lt count 8191 then place else Failed

-- in the trailer, of which so many bytes came
abbrev pub at_trailer_start : ℕ → ℕ → Place
at_trailer_start count c = unless_full count (if c == 13 then TrailerStartReturn (count + 1) else TrailerLine (count + 1))

abbrev pub in_trailer_line : ℕ → ℕ → Place
in_trailer_line count c = unless_full count (if c == 13 then TrailerLineReturn (count + 1) else TrailerLine (count + 1))

abbrev pub behind_start_return : ℕ → ℕ → Place
behind_start_return count c = if c == 10 && nat_lt count 8192 then Ended else in_trailer_line count c

abbrev pub behind_line_return : ℕ → ℕ → Place
behind_line_return count c = unless_full count (if c == 10 then TrailerStart (count + 1) else in_trailer_line count c)

-- the place behind a byte
abbrev pub next_place : Place → ℕ → Place
next_place (Counted left) c = if nat_lt left 2 then Ended else Counted (left - 1)
next_place (Digits count size) c = in_digits count size c
next_place (Pad line size) c = in_pad line size c
next_place (Extension line size) c = in_extension line size c
next_place (LineFeed size) c = behind_return size c
next_place (Data left) c = if nat_lt left 2 then DataReturn else Data (left - 1)
next_place DataReturn c = if c == 13 then DataFeed else Failed
next_place DataFeed c = if c == 10 then Digits 0 0 else Failed
next_place (TrailerStart count) c = at_trailer_start count c
next_place (TrailerStartReturn count) c = behind_start_return count c
next_place (TrailerLine count) c = in_trailer_line count c
next_place (TrailerLineReturn count) c = behind_line_return count c
next_place Ended c = Failed
next_place Failed c = Failed

-- where a body begins
abbrev pub start : Framing → Place
start framing.None = Ended
start (framing.Counted length) = if length == 0 then Ended else Counted length
start framing.Chunked = Digits 0 0

-- the place behind these bytes
abbrev pub place_after : Place → List ℕ → Place
place_after place bytes = fold next_place place bytes

-- how many of the next bytes are of the body for sure
abbrev pub data_left : Place → ℕ
data_left (Counted left) = left
data_left (Data left) = left
data_left _ = 0

-- the byte that comes there is of the body
abbrev pub is_data : Place → Bool
is_data (Counted left) = true
is_data (Data left) = true
is_data _ = false

-- the bytes of the body among these
abbrev pub body_from : Place → List ℕ → List ℕ
body_from place [] = []
body_from place (b ∷ bytes) = (if is_data place then b ∷ [] else []) ++ body_from (next_place place b) bytes

-- where a byte of the body comes next, one is left
abbrev pub is_open : Place → Bool
is_open (Counted left) = nat_lt 0 left
is_open (Data left) = nat_lt 0 left
is_open _ = true

abbrev pub IsOpen : Place → Type 0
IsOpen place = is_open place ≡ true
