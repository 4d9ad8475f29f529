-- A decimal number is a name, and a name is a text.
use Rattle.std.proofs.Common.{◌≡◌, ◌≤◌, ◌<◌, ◌^◌, ℕ, true, leb, eqb, List, [], ◌∷◌, length, arith, refl, ap}
use Rattle.std.specs.Prelude.{decimal, take_while}
use Rattle.std.specs.List.{prefix_len}
use Rattle.std.specs.Char.{digit_value}
use Rattle.std.specs.Str.{IsUtf8}
use Rattle.std.specs.Str.Lossy.{utf8_valid_len}
use Rattle.std.specs.Str.Parse.{AllDigits}
use Rattle.std.proofs.lemmas.Bool.{le-leb, eq-eqb}
use Rattle.std.proofs.lemmas.Fmt.{decimal_is_IsNumeral, length-decimal-le, IsAscii-decimal}
use Rattle.std.proofs.lemmas.List.{take_all}
use Rattle.std.proofs.lemmas.Str.{utf8_valid_len-IsUtf8, IsUtf8-from_ascii}
use Rattle.std.proofs.lemmas.Str.Parse.{digit_from_value}
use Rattle.sm_model.specs.Names.{is_name_byte, first_wrong, is_name}

-- a text is UTF-8 up to its end
pub whole_text : (b : List ℕ) → IsUtf8 b → utf8_valid_len b ≡ length b
whole_text b h = utf8_valid_len-IsUtf8 b h

digit_passes : (c : ℕ) → digit_value c < 10 → is_name_byte c ≡ true
digit_passes c h =
    let r = digit_from_value c h in
    let low : leb 48 c ≡ true = le-leb 48 c r.0 in
    let high : leb c 57 ≡ true = le-leb c 57 r.1 in
    rw (low, high) refl

digits_pass : (ds : List ℕ) → AllDigits 10 ds → prefix_len is_name_byte ds ≡ length ds
digits_pass [] h = refl
digits_pass (c ∷ cs) h = rw (digit_passes c h.0) (omega (arith, digits_pass cs h.1))

-- bytes of which each one is right
right : (b : List ℕ) → prefix_len is_name_byte b ≡ length b → IsUtf8 b → first_wrong b ≡ length b
unfolding first_wrong
right b p u =
    let t : length (take_while is_name_byte b) ≡ length b = ap length (take_all (prefix_len is_name_byte b) b (omega (arith, p))) in
    omega (arith, t, whole_text b u)

pub decimal_is_name : (n : ℕ) → n < 2 ^ 32 → is_name (decimal n) ≡ true
unfolding is_name
decimal_is_name n lt =
    let d = decimal_is_IsNumeral n (omega arith) in
    let few : length (decimal n) ≤ 10 = length-decimal-le 10 n (omega arith) (omega arith) (omega arith) in
    let p1 : leb 1 (length (decimal n)) ≡ true = le-leb 1 (length (decimal n)) (omega (arith, d.0.0)) in
    let p2 : leb (length (decimal n)) 64 ≡ true = le-leb (length (decimal n)) 64 (omega (arith, few)) in
    let p3 : eqb (first_wrong (decimal n)) (length (decimal n)) ≡ true
    = eq-eqb (first_wrong (decimal n)) (length (decimal n)) (right (decimal n) (digits_pass (decimal n) d.0.1) (IsUtf8-from_ascii (decimal n) (IsAscii-decimal n (omega arith)))) in
    rw (p1, p2, p3) refl
