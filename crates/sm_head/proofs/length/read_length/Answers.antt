use Rattle.std.proofs.Common.{◌≡◌, ℕ, ◌+◌, ◌-◌, ◌*◌, ◌<◌, ◌≤◌, ◌^◌, length, arith, true, List, [], ◌∷◌, take, get_or, lit<, ap, ◌∙◌, refl}
use Rattle.std.proofs.Math.Nat.{pow-le-pow_right}
use Rattle.std.proofs.lemmas.Grind.{pow_more, fold-append}
use Rattle.std.proofs.lemmas.List.{take_more}
use Rattle.std.proofs.lemmas.List.Folds.{list_all_more}
use Rattle.std.proofs.lemmas.Bool.Decides.{nat_tests}
use Rattle.std.specs.Char.{is_ascii_digit, digit_value}
use Rattle.std.specs.Str.Parse.{digits_value}
use Rattle.sm_head.proofs.length.read_length.Goals as goal

below_17 : (n v : ℕ) → n ≤ 17 → v < 10 ^ n → v < 10 ^ 17
below_17 n v low small = let top : 10 ^ n ≤ 10 ^ 17 = pow-le-pow_right (lit< tt) low in omega arith

digit_is : (b : ℕ) → is_ascii_digit b ≡ true → (digit_value b ≡ b - 48) × (b - 48 < 10)
digit_is b digit = (grind (arith, nat_tests), grind (arith, nat_tests))

digits_more : (xs : List ℕ) (i : ℕ) → i < length xs → is_ascii_digit (get_or xs i 0) ≡ true
    → digits_value 10 (take (i + 1) xs) ≡ digits_value 10 (take i xs) * 10 + (get_or xs i 0 - 48)
digits_more xs i lt digit =
    ap (digits_value 10) (take_more xs i 0 lt)
    ∙ fold-append (λ n c. n * 10 + digit_value c) 0 (take i xs) (get_or xs i 0 ∷ [])
    ∙ ap (λ d. digits_value 10 (take i xs) * 10 + d) (digit_is (get_or xs i 0) digit).0

pub overflow_mul-number : goal.overflow_mul-number
overflow_mul-number c =
    let low = below_17 c.loop-byte.byte-index c.loop-byte.number (omega arith) c.loop-byte.invariant.low in omega arith

pub overflow_add-number : goal.overflow_add-number
overflow_add-number c =
    let low = below_17 c.loop-byte.byte-index c.loop-byte.number (omega arith) c.loop-byte.invariant.low in
    let digit : is_ascii_digit (get_or c.args.value.now c.loop-byte.byte-index 0) ≡ true = grind (arith, nat_tests) in
    let small = (digit_is (get_or c.args.value.now c.loop-byte.byte-index 0) digit).1 in
    omega arith

pub loop-byte-preserved : goal.loop-byte-preserved
loop-byte-preserved c =
    let digit : is_ascii_digit (get_or c.args.value.now c.loop-byte.byte-index 0) ≡ true = grind (arith, nat_tests) in
    let small = (digit_is (get_or c.args.value.now c.loop-byte.byte-index 0) digit).1 in
    let inv = c.loop-byte.invariant in
    record {
      is = let e = inv.is in let m = digits_more c.args.value.now c.loop-byte.byte-index c.loop-byte-test.true digit in omega arith;
      low = rw pow_more (omega (arith, inv.low));
      digits = rw (list_all_more is_ascii_digit c.args.value.now c.loop-byte.byte-index 0 c.loop-byte-test.true, inv.digits, digit) refl;
    }
