-- Texts without a byte, and where they are cut.
use Rattle.std.proofs.Common.{◌≡◌, ℕ, ◌+◌, ◌-◌, ◌<◌, ◌≤◌, ◌^◌, Bool, true, false, List, [], ◌∷◌, ◌++◌, length, take, drop, refl, ap, ◌∙◌, arith, rules, All, length-append, Some}
use Rattle.std.specs.Prelude.{not, ◌==◌, nat_lt, nat_le, decimal, if◌then◌else◌}
use Rattle.std.specs.List.{list_all, prefix_len, position_or_len}
use Rattle.std.specs.Str.{bytes_eq}
use Rattle.std.proofs.lemmas.Bool.{and_parts, eqb-true, le-leb, lt-ltb, cond-true}
use Rattle.std.proofs.lemmas.Bool.Decides.{nat_tests}
use Rattle.std.proofs.lemmas.List.{length-take, take-append-le, drop-append-le, take_all, drop_all}
use Rattle.std.proofs.lemmas.Fmt.{digits_decimal, digits_value-decimal, decimal_nonempty, length-decimal-le}
use Rattle.std.proofs.lemmas.Str.Parse.{numerals_by_fold, IsNumeralModel}
use Rattle.std.proofs.lemmas.List.Elements.{All-head, All-tail}
use Rattle.percent_encoding.specs.Percent.{percent_encode_byte}
use Rattle.percent_encoding.proofs.PercentLemmas.{IsEscapeByte, All-percent_encode_byte}
use Rattle.sm_model.specs.Digits.{is_digit, decimal_from, is_number, number_of}
use Rattle.sm_model.specs.Names.{is_name, is_name_byte, first_wrong}
use Rattle.sm_addr.specs.Cuts.{before, up_to, from}
use Rattle.sm_addr.specs.Times.{is_time, time_of}
use Rattle.sm_addr.specs.Written.{escaped}

-- the byte isn't c
abbrev pub isnt : ℕ → ℕ → Bool
isnt c b = not (b == c)

pub isnt_by : (p : ℕ → Bool) (c b : ℕ) → p b ≡ true → p c ≡ false → isnt c b ≡ true
isnt_by p c b is fails = tested (b == c) refl
  where
    tested : (t : Bool) → (b == c) ≡ t → not (b == c) ≡ true
    tested true e = let same = eqb-true b c e in absurd (cc (ap p same))
    tested false e = ap not e

pub all_isnt : (p : ℕ → Bool) (c : ℕ) (xs : List ℕ) → list_all p xs ≡ true → p c ≡ false → list_all (isnt c) xs ≡ true
all_isnt p c [] all fails = refl
all_isnt p c (x ∷ xs) all fails =
    let parts = and_parts (p x) (list_all p xs) all in
    rw (isnt_by p c x parts.0 fails, all_isnt p c xs parts.1 fails) refl

pub all_on : (p : ℕ → Bool) (xs ys : List ℕ) → list_all p xs ≡ true → list_all p ys ≡ true → list_all p (xs ++ ys) ≡ true
all_on p [] ys one two = two
all_on p (x ∷ xs) ys one two =
    let parts = and_parts (p x) (list_all p xs) one in
    rw (parts.0, all_on p xs ys parts.1 two) refl

all_from : (P : ℕ → Type 0) (q : ℕ → Bool) → ((b : ℕ) → P b → q b ≡ true) → (xs : List ℕ) → All P xs → list_all q xs ≡ true
all_from P q says [] all = refl
all_from P q says (x ∷ xs) all = rw (says x (All-head P x xs all), all_from P q says xs (All-tail P x xs all)) refl

escape_isnt : (b : ℕ) → IsEscapeByte b → isnt 63 b ≡ true
escape_isnt b is = grind (arith, nat_tests, is)

escaped_one : (p : ℕ → Bool) → p 63 ≡ false → (b : ℕ) (t : Bool) → p b ≡ t → list_all (isnt 63) (if t then b ∷ [] else percent_encode_byte b) ≡ true
escaped_one p fails b true is = rw (isnt_by p 63 b is fails) refl
escaped_one p fails b false is = all_from IsEscapeByte (isnt 63) escape_isnt (percent_encode_byte b) (All-percent_encode_byte b)

-- what is escaped has no `?`
pub escaped_isnt : (p : ℕ → Bool) → p 63 ≡ false → (xs : List ℕ) → list_all (isnt 63) (escaped p xs) ≡ true
escaped_isnt p fails [] = refl
escaped_isnt p fails (x ∷ xs) =
    all_on (isnt 63) (if p x then x ∷ [] else percent_encode_byte x) (escaped p xs) (escaped_one p fails x (p x) refl) (escaped_isnt p fails xs)

-- ---- numbers and names

own : IsNumeralModel (λ ds. list_all is_digit ds ≡ true) (decimal_from 0)
own = numerals_by_fold _ (search rules) decimal_from (search rules)

pub decimal_digits : (n : ℕ) → n < 2 ^ 64 → list_all is_digit (decimal n) ≡ true
decimal_digits n lt = digits_decimal own n (omega arith)

pub bitrate_again : (n : ℕ) → n < 2 ^ 32 → number_of (decimal n) ≡ Some n
unfolding number_of is_number
bitrate_again n lt =
    let some : nat_lt 0 (length (decimal n)) ≡ true = lt-ltb 0 (length (decimal n)) (decimal_nonempty n (omega arith)) in
    let few : nat_le (length (decimal n)) 10 ≡ true = le-leb (length (decimal n)) 10 (length-decimal-le 10 n (omega arith) (omega arith) (omega arith)) in
    let digits : list_all is_digit (decimal n) ≡ true = decimal_digits n (omega arith) in
    let value : decimal_from 0 (decimal n) ≡ n = digits_value-decimal own n (omega arith) in
    let small : nat_lt (decimal_from 0 (decimal n)) 4294967296 ≡ true = rw value (lt-ltb n 4294967296 (omega arith)) in
    rw (some, few, digits, small, value) refl

pub time_again : (n : ℕ) → n < 2 ^ 64 → time_of (decimal n) ≡ Some n
unfolding time_of is_time
time_again n lt =
    let some : nat_lt 0 (length (decimal n)) ≡ true = lt-ltb 0 (length (decimal n)) (decimal_nonempty n (omega arith)) in
    let few : nat_le (length (decimal n)) 20 ≡ true = le-leb (length (decimal n)) 20 (length-decimal-le 20 n (omega arith) (omega arith) (omega arith)) in
    let digits : list_all is_digit (decimal n) ≡ true = decimal_digits n lt in
    let value : decimal_from 0 (decimal n) ≡ n = digits_value-decimal own n (omega arith) in
    let small : nat_lt (decimal_from 0 (decimal n)) (2 ^ 64) ≡ true = rw value (lt-ltb n (2 ^ 64) lt) in
    rw (some, few, digits, small, value) refl

prefix_all : (p : ℕ → Bool) (b : List ℕ) → length b ≤ prefix_len p b → list_all p b ≡ true
prefix_all p [] long = refl
prefix_all p (c ∷ cs) long = tested (p c) refl long (λ rest. prefix_all p cs rest)
  where
    tested : (b : Bool) → p c ≡ b → length (c ∷ cs) ≤ (if b then 1 + prefix_len p cs else 0) → (length cs ≤ prefix_len p cs → list_all p cs ≡ true) → list_all p (c ∷ cs) ≡ true
    tested true is more others = let rest = others (omega arith) in rw (is, rest) refl
    tested false is more others = absurd (omega arith)

pub name_bytes : (b : List ℕ) → is_name b ≡ true → list_all is_name_byte b ≡ true
unfolding is_name first_wrong
name_bytes b is =
    let second = and_parts (nat_le 1 (length b)) _ is in
    let third = and_parts (nat_le (length b) 64) _ second.1 in
    let right = eqb-true _ (length b) third.1 in
    let taken = length-take (prefix_len is_name_byte b) b in
    prefix_all is_name_byte b (omega (arith, right, taken))

-- ---- cuts

pub whole_up_to : (c : ℕ) (xs : List ℕ) → list_all (isnt c) xs ≡ true → position_or_len (λ b. b == c) xs ≡ length xs
whole_up_to c [] all = refl
whole_up_to c (x ∷ xs) all =
    let parts = and_parts (isnt c x) (list_all (isnt c) xs) all in
    rw parts.0 (omega (arith, whole_up_to c xs parts.1))

pub first_behind : (c : ℕ) (xs ys : List ℕ) → list_all (isnt c) xs ≡ true → position_or_len (λ b. b == c) (xs ++ c ∷ ys) ≡ length xs
first_behind c [] ys all = grind (arith, nat_tests)
first_behind c (x ∷ xs) ys all =
    let parts = and_parts (isnt c x) (list_all (isnt c) xs) all in
    rw parts.0 (omega (arith, first_behind c xs ys parts.1))

pub up_to_behind : (c : ℕ) (xs ys : List ℕ) → list_all (isnt c) xs ≡ true → up_to c (xs ++ c ∷ ys) ≡ xs
up_to_behind c xs ys all =
    ap (λ n. take n (xs ++ c ∷ ys)) (first_behind c xs ys all) ∙ take-append-le (length xs) xs (c ∷ ys) (omega arith) ∙ take_all (length xs) xs (omega arith)

pub from_behind : (c : ℕ) (xs ys : List ℕ) → list_all (isnt c) xs ≡ true → from c (xs ++ c ∷ ys) ≡ c ∷ ys
from_behind c xs ys all =
    ap (λ n. drop n (xs ++ c ∷ ys)) (first_behind c xs ys all) ∙ drop-append-le (length xs) xs (c ∷ ys) (omega arith) ∙ ap (λ d. d ++ c ∷ ys) (drop_all (length xs) xs (omega arith))

pub up_to_whole : (c : ℕ) (xs : List ℕ) → list_all (isnt c) xs ≡ true → up_to c xs ≡ xs
up_to_whole c xs all = ap (λ n. take n xs) (whole_up_to c xs all) ∙ take_all (length xs) xs (omega arith)

-- what stands before a last byte
pub before_last : (c : ℕ) (xs : List ℕ) → before (c ∷ []) (xs ++ c ∷ []) ≡ Some xs
before_last c xs =
    let l : length (xs ++ c ∷ []) - 1 ≡ length xs = omega (arith, length-append xs (c ∷ [])) in
    let d : drop (length (xs ++ c ∷ []) - 1) (xs ++ c ∷ []) ≡ c ∷ [] =
    ap (λ n. drop n (xs ++ c ∷ [])) l ∙ drop-append-le (length xs) xs (c ∷ []) (omega arith) ∙ ap (λ e. e ++ c ∷ []) (drop_all (length xs) xs (omega arith)) in
    let t : take (length (xs ++ c ∷ []) - 1) (xs ++ c ∷ []) ≡ xs =
    ap (λ n. take n (xs ++ c ∷ [])) l ∙ take-append-le (length xs) xs (c ∷ []) (omega arith) ∙ take_all (length xs) xs (omega arith) in
    let same : bytes_eq (c ∷ []) (c ∷ []) ≡ true = grind (arith, nat_tests) in
    cond-true _ _ _ (ap (λ e. bytes_eq e (c ∷ [])) d ∙ same) ∙ ap (λ e. Some e) t
