-- The values of a written track: they stand for themselves, fit their names and are read again.
use Rattle.std.proofs.Common.{◌≡◌, ◌<◌, ◌≤◌, ◌+◌, ◌/◌, ◌%◌, ◌^◌, ℕ, zero, suc, Bool, true, false, cond, eqb, leb, ltb, List, [], ◌∷◌, length, Option, Some, None, option_map, get_or, refl, arith, rules, length-take}
use Rattle.std.specs.Prelude.{decimal}
use Rattle.std.specs.List.{list_all, prefix_len}
use Rattle.std.proofs.lemmas.Bool.{and_parts, eqb-true, le-leb, lt-ltb, eq-eqb}
use Rattle.std.proofs.lemmas.Fmt.{decimal_nonempty, length-decimal-le, digits_decimal, digits_value-decimal}
use Rattle.std.proofs.lemmas.Str.Parse.{numerals_by_fold, IsNumeralModel}
use Rattle.std.proofs.lemmas.List.Sums.{list_all-from_AllPass}
use Rattle.hex.specs.Hex.{encode_upper, encode_with, upper_digits, is_hex_digit, IsBytes}
use Rattle.hex.proofs.HexLemmas.{length-encode_with, decode_of-encode_upper, decode_of-ok}
use Rattle.sm_model.specs.declared.track.Track.{Track}
use Rattle.sm_smil.specs.declared.raw_track.Form.{Form}
use Rattle.sm_smil.specs.declared.raw_track.Form.TheVariants.{Pushed, Ladder}
use Rattle.sm_smil.specs.declared.raw_track.ParamName.{ParamName}
use Rattle.sm_smil.specs.declared.raw_track.ParamName.TheVariants.{SystemBitrate, TrackId, TrackName, TimeScale, FourCc, CodecPrivateData, MaxWidth, MaxHeight, AudioTag, Channels, SamplingRate, BitsPerSample, PacketSize}
use Rattle.sm_model.specs.Digits.{is_digit, decimal_from, is_number, number_of}
use Rattle.sm_model.specs.Names.{is_name, is_name_byte, first_wrong}
use Rattle.sm_model.specs.Channels.{is_fourcc, is_fourcc_byte, IsTrack, IsNarrowTrack, IsNarrowOption}
use Rattle.sm_smil.specs.LiveTracks.{is_private, is_timescale, number_in}
use Rattle.sm_tag.specs.TagText.{is_plain}
use Rattle.sm_tag.proofs.WrittenTags.{not_of}

plain_of : (p : ℕ → Bool) → p 34 ≡ false → p 60 ≡ false → p 38 ≡ false → (b : List ℕ) → list_all p b ≡ true → list_all is_plain b ≡ true
plain_of p quote angle ampersand [] all = refl
plain_of p quote angle ampersand (c ∷ cs) all =
    let parts = and_parts (p c) (list_all p cs) all in
    let q : eqb c 34 ≡ false = not_of p c 34 parts.0 quote in
    let a : eqb c 60 ≡ false = not_of p c 60 parts.0 angle in
    let m : eqb c 38 ≡ false = not_of p c 38 parts.0 ampersand in
    rw (q, a, m) (plain_of p quote angle ampersand cs parts.1)

-- decimal numbers
own : IsNumeralModel (λ ds. list_all is_digit ds ≡ true) (decimal_from 0)
own = numerals_by_fold _ (search rules) decimal_from (search rules)

decimal_digits : (n : ℕ) → n < 2 ^ 32 → list_all is_digit (decimal n) ≡ true
decimal_digits n lt = digits_decimal own n (omega arith)

decimal_value : (n : ℕ) → n < 2 ^ 32 → decimal_from 0 (decimal n) ≡ n
decimal_value n lt = digits_value-decimal own n (omega arith)

pub decimal_plain : (n : ℕ) → n < 2 ^ 32 → list_all is_plain (decimal n) ≡ true
decimal_plain n lt = plain_of is_digit refl refl refl (decimal n) (decimal_digits n lt)

pub decimal_number : (n : ℕ) → n < 2 ^ 32 → is_number (decimal n) ≡ true
unfolding is_number
decimal_number n lt =
    let some : ltb 0 (length (decimal n)) ≡ true = lt-ltb 0 (length (decimal n)) (decimal_nonempty n (omega arith)) in
    let few : leb (length (decimal n)) 10 ≡ true = le-leb (length (decimal n)) 10 (length-decimal-le 10 n (omega arith) (omega arith) (omega arith)) in
    let digits : list_all is_digit (decimal n) ≡ true = decimal_digits n lt in
    let small : ltb (decimal_from 0 (decimal n)) 4294967296 ≡ true = rw (decimal_value n lt) (lt-ltb n 4294967296 (omega arith)) in
    rw (some, few, digits, small) refl

pub decimal_again : (n : ℕ) → n < 2 ^ 32 → number_of (decimal n) ≡ Some n
unfolding number_of
decimal_again n lt = rw (decimal_number n lt, decimal_value n lt) refl

pub option_again : (o : Option ℕ) → IsNarrowOption o → number_in (option_map decimal o) ≡ o
option_again None narrow = refl
option_again (Some n) narrow = decimal_again n (narrow n refl)

-- names
prefix_all : (p : ℕ → Bool) (b : List ℕ) → length b ≤ prefix_len p b → list_all p b ≡ true
prefix_all p [] long = refl
prefix_all p (c ∷ cs) long = tested (p c) refl long (λ rest. prefix_all p cs rest)
  where
    tested : (b : Bool) → p c ≡ b → length (c ∷ cs) ≤ cond b (1 + prefix_len p cs) 0 → (length cs ≤ prefix_len p cs → list_all p cs ≡ true) → list_all p (c ∷ cs) ≡ true
    tested true is more others = let rest = others (omega arith) in rw (is, rest) refl
    tested false is more others = absurd (omega arith)

pub name_plain : (b : List ℕ) → is_name b ≡ true → list_all is_plain b ≡ true
unfolding is_name first_wrong
name_plain b is =
    let second = and_parts (leb 1 (length b)) _ is in
    let third = and_parts (leb (length b) 64) _ second.1 in
    let right = eqb-true _ (length b) third.1 in
    let taken = length-take (prefix_len is_name_byte b) b in
    plain_of is_name_byte refl refl refl b (prefix_all is_name_byte b (omega (arith, right, taken)))

-- FourCCs
pub fourcc_plain : (b : List ℕ) → is_fourcc b ≡ true → list_all is_plain b ≡ true
fourcc_plain b is = plain_of is_fourcc_byte refl refl refl b (and_parts (leb (length b) 4) _ is).1

-- private data
table_plain : (ts : List ℕ) (i : ℕ) → list_all is_plain ts ≡ true → is_plain (get_or ts i 0) ≡ true
table_plain [] i all = refl
table_plain (t ∷ ts) zero all = (and_parts (is_plain t) (list_all is_plain ts) all).0
table_plain (t ∷ ts) (suc i) all = table_plain ts i (and_parts (is_plain t) (list_all is_plain ts) all).1

pub private_plain : (b : List ℕ) → list_all is_plain (encode_upper b) ≡ true
unfolding encode_with
private_plain [] = refl
private_plain (c ∷ cs) =
    let high : is_plain (get_or upper_digits (c / 16) 0) ≡ true = table_plain upper_digits (c / 16) refl in
    let low : is_plain (get_or upper_digits (c % 16) 0) ≡ true = table_plain upper_digits (c % 16) refl in
    rw (high, low) (private_plain cs)

pub private_again : (b : List ℕ) → IsBytes b → length b ≤ 32768 → is_private (encode_upper b) ≡ true
unfolding is_private
private_again b bytes short =
    let long = length-encode_with upper_digits b in
    let good = decode_of-ok (encode_upper b) b (decode_of-encode_upper b bytes) in
    let few : leb (length (encode_upper b)) 65536 ≡ true = le-leb (length (encode_upper b)) 65536 (omega (arith, long)) in
    let even : eqb (length (encode_upper b) % 2) 0 ≡ true = eq-eqb (length (encode_upper b) % 2) 0 good.0 in
    let digits : list_all is_hex_digit (encode_upper b) ≡ true = list_all-from_AllPass is_hex_digit (encode_upper b) good.1 in
    rw (few, even, digits) refl

-- a pushed header passes over the timescale
abbrev pub expected_scale : Form → Track → Option (List ℕ)
expected_scale Pushed t = None
expected_scale Ladder t = Some (decimal t.timescale)

-- what a written track says by the params that are read
abbrev pub expected : Form → ℕ → Track → ParamName → Option (List ℕ)
expected form id t SystemBitrate = None
expected form id t TrackId = Some (decimal id)
expected form id t TrackName = Some t.name
expected form id t TimeScale = expected_scale form t
expected form id t FourCc = Some t.fourcc
expected form id t CodecPrivateData = Some (encode_upper t.private)
expected form id t MaxWidth = option_map decimal t.numbers.width
expected form id t MaxHeight = option_map decimal t.numbers.height
expected form id t AudioTag = option_map decimal t.numbers.tag
expected form id t Channels = option_map decimal t.numbers.channels
expected form id t SamplingRate = option_map decimal t.numbers.rate
expected form id t BitsPerSample = option_map decimal t.numbers.bits
expected form id t PacketSize = option_map decimal t.numbers.packet

-- a track that can be written, with its track_ID
pub record IsWritable (id : ℕ) (t : Track) : Type 0 where
  pub small : id < 2 ^ 32
  pub track : IsTrack t
  pub narrow : IsNarrowTrack t

pub timescale_fits : (n : ℕ) → n < 2 ^ 32 → 0 < n → is_timescale (decimal n) ≡ true
unfolding is_timescale
timescale_fits n lt some =
    let positive : ltb 0 (decimal_from 0 (decimal n)) ≡ true = rw (decimal_value n lt) (lt-ltb 0 n some) in
    rw (decimal_number n lt, positive) refl
