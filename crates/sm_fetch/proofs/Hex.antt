-- Sizes in hexadecimal digits, read again.
use Rattle.std.proofs.Common.{◌≡◌, ◌<◌, ◌≤◌, ℕ, zero, suc, ◌/◌, ◌%◌, ◌^◌, ◌==◌, Bool, true, false, List, [], ◌∷◌, ◌++◌, length, refl, ◌∙◌, sym, subst, arith, append_assoc, length-append}
use Rattle.std.specs.Prelude.{All}
use Rattle.std.specs.Char.{is_digit, digit_value}
use Rattle.std.specs.Fmt.{digits, digits_onto, digit_glyph}
use Rattle.std.specs.Str.Parse.{digits_value}
use Rattle.std.proofs.Math.Nat.{pow-suc}
use Rattle.std.proofs.lemmas.Bool.{agree_below, agree_below_at}
use Rattle.std.proofs.lemmas.Bool.Decides.{nat_tests}
use Rattle.std.proofs.lemmas.Int.Digits.{digits_value_push}
use Rattle.std.proofs.lemmas.List.{append-nil}
use Rattle.std.proofs.lemmas.List.Elements.{All-append, All-from_recursion}
use Rattle.sm_body.specs.Chunked.{IsHex}

-- one digit

checked_values : agree_below (λ d. digit_value (digit_glyph false d) == d) (λ d. true) 16 ≡ true
checked_values = refl

checked_hex : agree_below (λ d. is_digit (digit_glyph false d) 16) (λ d. true) 16 ≡ true
checked_hex = refl

glyph_value : (d : ℕ) → d < 16 → digit_value (digit_glyph false d) ≡ d
glyph_value d low = same_if (digit_value (digit_glyph false d)) d (agree_below_at (λ d. digit_value (digit_glyph false d) == d) (λ d. true) 16 d checked_values low)
  where
    same_if : (a b : ℕ) → (a == b) ≡ true → a ≡ b
    same_if a b is = grind (arith, nat_tests)

glyph_hex : (d : ℕ) → d < 16 → IsHex (digit_glyph false d)
glyph_hex d low = agree_below_at (λ d. is_digit (digit_glyph false d) 16) (λ d. true) 16 d checked_hex low

pub one_hex : (c : ℕ) → IsHex c → All IsHex (c ∷ [])
one_hex c is = All-from_recursion IsHex (c ∷ []) (is, tt)

-- 1 to so many digits, which write the number
pub record IsHexOf (most n : ℕ) (ds : List ℕ) : Type 0 where
  pub some : 0 < length ds
  pub few : length ds ≤ most
  pub hex : All IsHex ds
  pub value : digits_value 16 ds ≡ n

abbrev Written : ℕ → ℕ → ℕ → List ℕ → Type 0
Written k most n acc = (ds : List ℕ) × IsHexOf most n ds × (digits_onto k 16 false n acc ≡ ds ++ acc)

abbrev last : ℕ → ℕ
last n = digit_glyph false (n % 16)

-- a number of one digit
one_digit : (m k n : ℕ) (acc : List ℕ) → (n / 16 == 0) ≡ true → Written (suc k) (suc m) n acc
one_digit m k n acc is =
    let small : n < 16 = below is in
    let same : n % 16 ≡ n = omega (arith, small) in (
      last n ∷ [],
      record { some = omega arith; few = omega arith; hex = one_hex (last n) (glyph_hex (n % 16) (omega arith)); value = digits_value_push 16 [] (last n) ∙ omega (arith, glyph_value (n % 16) (omega arith), same) },
      rw is refl,
    )
  where
    below : (n / 16 == 0) ≡ true → n < 16
    below is = grind (arith, nat_tests)

-- one digit behind those of the rest
more_digits : (m k n : ℕ) (acc : List ℕ) → (n / 16 == 0) ≡ false → Written k m (n / 16) (last n ∷ acc) → Written (suc k) (suc m) n acc
more_digits m k n acc is (ds, w, same) = (
  ds ++ last n ∷ [],
  record {
    some = omega (arith, length-append ds (last n ∷ []));
    few = omega (arith, w.few, length-append ds (last n ∷ []));
    hex = All-append IsHex ds (last n ∷ []) w.hex (one_hex (last n) (glyph_hex (n % 16) (omega arith)));
    value = digits_value_push 16 ds (last n) ∙ omega (arith, w.value, glyph_value (n % 16) (omega arith));
  },
  rw is (same ∙ sym (append_assoc ds (last n ∷ []) acc)),
)

by_test : (m k n : ℕ) (acc : List ℕ) (b : Bool) → (n / 16 == 0) ≡ b → ((n / 16 == 0) ≡ false → Written k m (n / 16) (last n ∷ acc)) → Written (suc k) (suc m) n acc
by_test m k n acc true is rest = one_digit m k n acc is
by_test m k n acc false is rest = more_digits m k n acc is (rest is)

onto : (m k n : ℕ) (acc : List ℕ) → m ≤ k → n < 16 ^ suc m → Written (suc k) (suc m) n acc
onto zero k n acc fuel low = by_test zero k n acc (n / 16 == 0) refl (λ is. absurd (not_small n is low))
  where
    not_small : (n : ℕ) → (n / 16 == 0) ≡ false → n < 16 ^ 1 → ⊥
    not_small n is low = absurd (grind (arith, nat_tests))
onto (suc m) zero n acc fuel low = absurd (omega arith)
onto (suc m) (suc k) n acc fuel low =
    by_test (suc m) (suc k) n acc (n / 16 == 0) refl (λ is. onto m k (n / 16) (last n ∷ acc) (omega arith) (omega (arith, low, pow-suc 16 (suc m))))

-- a number below 16^15 has at most 15 digits
pub hex_is_read : (n : ℕ) → n < 16 ^ 15 → IsHexOf 15 n (digits 16 false n)
unfolding digits
hex_is_read n low =
    let w = onto 14 63 n [] (omega arith) low in
    subst (IsHexOf 15 n) (sym (w.2 ∙ append-nil w.0)) w.1
