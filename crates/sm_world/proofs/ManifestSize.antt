-- How long a manifest can be.
use Rattle.std.proofs.Common.{◌≡◌, ℕ, suc, ◌+◌, ◌*◌, ◌<◌, ◌≤◌, ◌^◌, Bool, true, false, if◌then◌else◌, List, [], ◌∷◌, ◌++◌, filter, length, Option, Some, None, refl, arith, All, length-append}
use Rattle.std.specs.Prelude.{codes, decimal, nat_le, nat_lt, ◌==◌, ◌&&◌}
use Rattle.std.specs.List.{list_any, AllByRecursion}
use Rattle.std.proofs.lemmas.Bool.{and_parts}
use Rattle.std.proofs.lemmas.Bool.Decides.{nat_tests}
use Rattle.std.proofs.lemmas.Fmt.{length-decimal-le_wide}
use Rattle.std.proofs.lemmas.List.Elements.{recursion_from_All}
use Rattle.hex.specs.Hex.{encode_with, encode_upper, upper_digits}
use Rattle.percent_encoding.specs.Percent.{percent_encode_byte}
use Rattle.sm_model.specs.declared.entry.Entry.{Entry}
use Rattle.sm_model.specs.declared.entry.Entry.TheVariants.{Declare, Keep}
use Rattle.sm_model.specs.declared.track.Kind.{Kind}
use Rattle.sm_model.specs.declared.track.Kind.TheVariants.{Video, Audio, Text}
use Rattle.sm_model.specs.declared.track.Params.{Params}
use Rattle.sm_model.specs.declared.track.Track.{Track}
use Rattle.sm_model.specs.Channels.{IsTrack, IsChannel, IsNarrowOption, AreNarrow, is_fourcc_byte}
use Rattle.std.specs.List.{list_all}
use Rattle.sm_model.specs.Same.{is_same}
use Rattle.sm_model.specs.Kinds.{kind_name}
use Rattle.sm_model.specs.Names.{is_name, first_wrong}
use Rattle.sm_log.specs.Adds.{Add, tracks_of, is_listed, times_from, times_of}
use Rattle.sm_log.specs.Times.{IsSpan, with_entry}
use Rattle.sm_log.specs.Logs.{channel_of, adds_from, adds_of, listed_by, listed_in, IsSound}
use Rattle.sm_manout.specs.ManifestText.{TimeRun, follows, runs_from, runs, attribute, number_attribute, option_attribute, text_attribute, is_plain, escaped, run_line, run_lines, number_attributes}
use Rattle.sm_manout.specs.ManifestText.{level_line, level_lines, url, stream_opening, stream_lines, streams_lines, manifest}
use Rattle.sm_manout.specs.Shown.{IsWritable}

-- ---- how many times are listed

either_short : (b : Bool) (n : ℕ) (xs ys : List (ℕ × ℕ)) → length xs ≤ n → length ys ≤ n → length (if b then xs else ys) ≤ n
either_short true n xs ys one two = one
either_short false n xs ys one two = two

filter_short : (p : ℕ × ℕ → Bool) (xs : List (ℕ × ℕ)) → length (filter p xs) ≤ length xs
filter_short p [] = omega arith
filter_short p (x ∷ xs) = let rest = filter_short p xs in either_short (p x) (suc (length xs)) (x ∷ filter p xs) (filter p xs) (omega arith) (omega arith)

with_short : (t d : ℕ) (xs : List (ℕ × ℕ)) → length (with_entry t d xs) ≤ suc (length xs)
with_short t d [] = omega arith
with_short t d (x ∷ xs) =
    let rest = with_short t d xs in
    either_short (nat_lt t x.0) (suc (suc (length xs))) ((t, d) ∷ x ∷ xs) (if x.0 == t then x ∷ xs else x ∷ with_entry t d xs) (omega arith)
    (either_short (x.0 == t) (suc (suc (length xs))) (x ∷ xs) (x ∷ with_entry t d xs) (omega arith) (omega arith))

times_short : (s : List ℕ) (ts : List (ℕ × ℕ)) (adds : List Add) → length (times_from s ts adds) ≤ length ts + length adds
times_short s ts [] = omega arith
times_short s ts (a ∷ adds) =
    let more = if is_same a.address.stream s then with_entry a.address.time a.duration ts else ts in
    let one : length more ≤ suc (length ts) = either_short (is_same a.address.stream s) (suc (length ts)) (with_entry a.address.time a.duration ts) ts (with_short a.address.time a.duration ts) (omega arith) in
    omega (arith, times_short s more adds, one)

adds_short : (place : ℕ) (log : List Entry) → length (adds_from place log) ≤ length log
adds_short place [] = omega arith
adds_short place (Declare tracks ∷ log) = omega (arith, adds_short (suc place) log)
adds_short place (Keep f ∷ log) = omega (arith, adds_short (suc place) log)

listed_short : (channel : Option (List Track)) (adds : List Add) (s : List ℕ) → length (listed_by channel adds s) ≤ length adds
listed_short None adds s = omega arith
listed_short (Some channel) adds s = omega (arith, filter_short (is_listed channel adds s) (times_of s adds), times_short s [] adds)

pub few_listed : (log : List Entry) (s : List ℕ) → IsSound log → length (listed_in log s) < 2 ^ 32
few_listed log s sound = omega (arith, listed_short (channel_of log) (adds_of log) s, adds_short 0 log, sound.few)

-- ---- attributes

pub attribute_size : (name value : List ℕ) (m n : ℕ) → length name ≤ m → length value ≤ n → length (attribute name value) ≤ m + n + 4
unfolding attribute
attribute_size name value m n one two = simp (length-append) (omega arith)

pub number_size : (name : List ℕ) (n : ℕ) → length name ≤ 16 → n < 10 ^ 20 → length (number_attribute name n) ≤ 40
number_size name n short low = attribute_size name (decimal n) 16 20 short (length-decimal-le_wide 20 n (omega arith) low (omega arith))

option_size : (name : List ℕ) (o : Option ℕ) → length name ≤ 16 → IsNarrowOption o → length (option_attribute name o) ≤ 40
option_size name None short narrow = omega arith
option_size name (Some n) short narrow = let low : n < 2 ^ 32 = narrow n refl in number_size name n short (omega arith)

text_size : (name value : List ℕ) (n : ℕ) → length name ≤ 16 → length value ≤ n → length (text_attribute name value) ≤ n + 20
text_size name [] n short few = omega arith
text_size name (c ∷ cs) n short few = let size = attribute_size name (c ∷ cs) 16 n short few in omega (arith, size)

hex_size : (t bytes : List ℕ) → length (encode_with t bytes) ≡ 2 * length bytes
unfolding encode_with
hex_size t [] = refl
hex_size t (b ∷ bytes) = omega (arith, hex_size t bytes)

byte_size : (b : ℕ) → length (if is_plain b then b ∷ [] else percent_encode_byte b) ≤ 3
unfolding percent_encode_byte
byte_size b = go (is_plain b)
  where
    go : (p : Bool) → length (if p then b ∷ [] else percent_encode_byte b) ≤ 3
    go true = omega arith
    go false = omega arith

escaped_size : (bytes : List ℕ) → length (escaped bytes) ≤ 3 * length bytes
escaped_size [] = omega arith
escaped_size (b ∷ bytes) =
    omega (arith, byte_size b, escaped_size bytes, length-append (if is_plain b then b ∷ [] else percent_encode_byte b) (escaped bytes))

-- ---- runs

record IsSmall (r : TimeRun) : Type 0 where
  start : r.start < 2 ^ 63
  duration : r.duration < 2 ^ 63
  count : r.count < 10 ^ 20

runs_small : (start count : ℕ) (last : ℕ × ℕ) (xs : List (ℕ × ℕ)) → start < 2 ^ 63 → last.1 < 2 ^ 63 → count + length xs < 10 ^ 20 → AllByRecursion IsSpan xs
    → AllByRecursion IsSmall (runs_from start count last xs) × (length (runs_from start count last xs) ≤ length xs + 1)
runs_small start count last [] low wide few spans = ((record { start = low; duration = wide; count = omega arith }, tt), omega arith)
runs_small start count last (x ∷ xs) low wide few spans =
    let s : IsSpan x = spans.0 in
    go (follows last x) (runs_small start (count + 1) x xs low (omega (arith, s.1)) (omega arith) spans.1) (runs_small x.0 1 x xs (omega (arith, s.1)) (omega (arith, s.1)) (omega arith) spans.1)
  where
    this : TimeRun
    this = record { start = start; duration = last.1; count = count }

    go : (b : Bool) → AllByRecursion IsSmall (runs_from start (count + 1) x xs) × (length (runs_from start (count + 1) x xs) ≤ length xs + 1)
        → AllByRecursion IsSmall (runs_from x.0 1 x xs) × (length (runs_from x.0 1 x xs) ≤ length xs + 1)
        → AllByRecursion IsSmall (if b then runs_from start (count + 1) x xs else this ∷ runs_from x.0 1 x xs)
        × (length (if b then runs_from start (count + 1) x xs else this ∷ runs_from x.0 1 x xs) ≤ length (x ∷ xs) + 1)
    go true one two = (one.0, omega (arith, one.1))
    go false one two = ((record { start = low; duration = wide; count = omega arith }, two.0), omega (arith, two.1))

run_size : (r : TimeRun) → IsSmall r → length (run_line r) ≤ 200
unfolding run_line
run_size r small =
    let t = number_size (codes "t") r.start (omega arith) (omega (arith, small.start)) in
    let d = number_size (codes "d") r.duration (omega arith) (omega (arith, small.duration)) in
    let n = go (r.count == 1) (number_size (codes "r") r.count (omega arith) small.count) in
    simp (length-append) (omega arith)
  where
    go : (b : Bool) → length (number_attribute (codes "r") r.count) ≤ 40 → length (if b then [] else number_attribute (codes "r") r.count) ≤ 40
    go true short = omega arith
    go false short = short

lines_size : (rs : List TimeRun) → AllByRecursion IsSmall rs → length (run_lines rs) ≤ 200 * length rs
lines_size [] small = omega arith
lines_size (r ∷ rs) small = omega (arith, run_size r small.0, lines_size rs small.1, length-append (run_line r) (run_lines rs))

pub run_lines_size : (times : List (ℕ × ℕ)) → AllByRecursion IsSpan times → length times < 2 ^ 32 → length (run_lines (runs times)) ≤ 200 * 2 ^ 32
run_lines_size [] spans few = omega arith
run_lines_size (x ∷ xs) spans few =
    let s : IsSpan x = spans.0 in
    let r = runs_small x.0 1 x xs (omega (arith, s.1)) (omega (arith, s.1)) (omega arith) spans.1 in
    omega (arith, lines_size (runs_from x.0 1 x xs) r.0, r.1)

-- ---- tracks

fourcc_short : (t : Track) → IsTrack t → length t.fourcc ≤ 4
fourcc_short t is = let p = and_parts (nat_le (length t.fourcc) 4) (list_all is_fourcc_byte t.fourcc) is.fourcc in let le = p.0 in grind (arith, nat_tests)

name_short : (name : List ℕ) → is_name name ≡ true → length name ≤ 64
unfolding is_name
name_short name is =
    let p = and_parts (nat_le 1 (length name)) (nat_le (length name) 64 && first_wrong name == length name) is in
    let q = and_parts (nat_le (length name) 64) (first_wrong name == length name) p.1 in
    let le = q.0 in
    grind (arith, nat_tests)

numbers_size : (p : Params) → AreNarrow p → length (number_attributes p) ≤ 280
unfolding number_attributes
numbers_size p narrow =
    let a = option_size (codes "MaxWidth") p.width (omega arith) narrow.width in
    let b = option_size (codes "MaxHeight") p.height (omega arith) narrow.height in
    let c = option_size (codes "AudioTag") p.tag (omega arith) narrow.tag in
    let d = option_size (codes "Channels") p.channels (omega arith) narrow.channels in
    let e = option_size (codes "SamplingRate") p.rate (omega arith) narrow.rate in
    let f = option_size (codes "BitsPerSample") p.bits (omega arith) narrow.bits in
    let g = option_size (codes "PacketSize") p.packet (omega arith) narrow.packet in
    simp (length-append) (omega arith)

level_size : (index : ℕ) (t : Track) → index < 10 ^ 20 → IsTrack t → IsWritable t → length (level_line index t) ≤ 70000
unfolding level_line
level_size index t low is writable =
    let i = number_size (codes "Index") index (omega arith) low in
    let b = number_size (codes "Bitrate") t.bitrate (omega arith) (omega (arith, writable.bitrate)) in
    let f = text_size (codes "FourCC") t.fourcc 4 (omega arith) (fourcc_short t is) in
    let private_short = is.short in
    let p = attribute_size (codes "CodecPrivateData") (encode_upper t.private) 16 65536 (omega arith) (omega (arith, hex_size upper_digits t.private)) in
    let n = numbers_size t.numbers writable.numbers in
    simp (length-append) (omega arith)

levels_size : (index : ℕ) (name : List ℕ) (ts : List Track) → index + length ts < 10 ^ 20 → AllByRecursion IsTrack ts → AllByRecursion IsWritable ts → length (level_lines index name ts) ≤ 70000 * length ts
levels_size index name [] low are writable = omega arith
levels_size index name (t ∷ ts) low are writable =
    go (is_same t.name name) (level_size index t (omega arith) are.0 writable.0) (levels_size (index + 1) name ts (omega arith) are.1 writable.1) (levels_size index name ts (omega arith) are.1 writable.1)
  where
    go : (b : Bool) → length (level_line index t) ≤ 70000 → length (level_lines (index + 1) name ts) ≤ 70000 * length ts → length (level_lines index name ts) ≤ 70000 * length ts
        → length (if b then level_line index t ++ level_lines (index + 1) name ts else level_lines index name ts) ≤ 70000 * length (t ∷ ts)
    go true one rest other = omega (arith, one, rest, length-append (level_line index t) (level_lines (index + 1) name ts))
    go false one rest other = omega (arith, other)

tracks_short : (name : List ℕ) (ts : List Track) → length (tracks_of name ts) ≤ length ts
tracks_short name [] = omega arith
tracks_short name (t ∷ ts) = go (is_same t.name name) (tracks_short name ts)
  where
    go : (b : Bool) → length (tracks_of name ts) ≤ length ts → length (if b then t ∷ tracks_of name ts else tracks_of name ts) ≤ length (t ∷ ts)
    go true rest = omega (arith, rest)
    go false rest = omega (arith, rest)

url_size : (name : List ℕ) → length name ≤ 64 → length (url name) ≤ 300
unfolding url
url_size name short = let e = escaped_size name in simp (length-append) (omega arith)

kind_short : (k : Kind) → length (kind_name k) ≤ 5
kind_short Video = omega arith
kind_short Audio = omega arith
kind_short Text = omega arith

opening_size : (t : Track) (chunks levels : ℕ) → IsWritable t → chunks < 10 ^ 20 → levels < 10 ^ 20 → length (stream_opening t chunks levels) ≤ 1000
unfolding stream_opening
opening_size t chunks levels writable few some =
    let named = name_short t.name writable.name in
    let k = attribute_size (codes "Type") (kind_name t.kind) 16 5 (omega arith) (kind_short t.kind) in
    let n = attribute_size (codes "Name") t.name 16 64 (omega arith) named in
    let s = number_size (codes "TimeScale") t.timescale (omega arith) (omega (arith, writable.timescale)) in
    let c = number_size (codes "Chunks") chunks (omega arith) few in
    let l = number_size (codes "QualityLevels") levels (omega arith) some in
    let u = attribute_size (codes "Url") (url t.name) 16 300 (omega arith) (url_size t.name named) in
    simp (length-append) (omega arith)

-- ---- the manifest

module _ (channel : List Track) (times : List ℕ → List (ℕ × ℕ)) (is : IsChannel channel) (writable : All IsWritable channel)
    (spans : (name : List ℕ) → All IsSpan (times name)) (few : (name : List ℕ) → length (times name) < 2 ^ 32) where
  stream_size : (t : Track) → IsWritable t → length (stream_lines channel (times t.name) t) ≤ 10 ^ 12
  unfolding stream_lines
  stream_size t fits =
      let many = is.few in
      let f = few t.name in
      let o = opening_size t (length (times t.name)) (length (tracks_of t.name channel)) fits (omega arith) (omega (arith, tracks_short t.name channel)) in
      let l = levels_size 0 t.name channel (omega arith) (recursion_from_All IsTrack channel is.each) (recursion_from_All IsWritable channel writable) in
      let r = run_lines_size (times t.name) (recursion_from_All IsSpan (times t.name) (spans t.name)) f in
      simp (length-append) (omega arith)

  streams_size : (earlier ts : List Track) → AllByRecursion IsWritable ts → length (streams_lines channel times earlier ts) ≤ 10 ^ 12 * length ts
  streams_size earlier [] fits = omega arith
  streams_size earlier (t ∷ ts) fits =
      let one = go (list_any (λ u. is_same u.name t.name) earlier) (stream_size t fits.0) in
      let rest = streams_size (earlier ++ t ∷ []) ts fits.1 in
      omega (arith, one, rest, length-append (if list_any (λ u. is_same u.name t.name) earlier then [] else stream_lines channel (times t.name) t) (streams_lines channel times (earlier ++ t ∷ []) ts))
    where
      go : (b : Bool) → length (stream_lines channel (times t.name) t) ≤ 10 ^ 12 → length (if b then [] else stream_lines channel (times t.name) t) ≤ 10 ^ 12
      go true short = omega arith
      go false short = short

  pub manifest_size : length (manifest channel times) < 10 ^ 18
  unfolding manifest
  manifest_size =
      let many = is.few in
      let s = streams_size [] channel (recursion_from_All IsWritable channel writable) in
      simp (length-append) (omega arith)
