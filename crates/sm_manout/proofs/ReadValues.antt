-- The values of a manifest stand for themselves, and are read again.
use Rattle.std.proofs.Common.{◌≡◌, ◌<◌, ◌≤◌, ◌^◌, ◌/◌, ◌%◌, ℕ, Bool, true, false, not, ◌&&◌, ◌||◌, cond, eqb, leb, ltb, List, [], ◌∷◌, ◌++◌, length, Some, refl, sym, ◌∙◌, ⊎_elim, arith, rules}
use Rattle.std.specs.Prelude.{decimal, codes}
use Rattle.std.specs.Fmt.{digit_glyph}
use Rattle.std.specs.List.{list_all}
use Rattle.std.proofs.lemmas.Bool.{and_parts, and_from, eqb-false, ne_eqb, lt-ltb, le-leb, agree_below_at, cases_lt}
use Rattle.std.proofs.lemmas.Bool.Decides.{nat_tests}
use Rattle.std.proofs.lemmas.Fmt.{decimal_nonempty, length-decimal-le, digits_decimal, digits_value-decimal}
use Rattle.std.proofs.lemmas.Str.Parse.{numerals_by_fold, IsNumeralModel}
use Rattle.percent_encoding.specs.Percent.{percent_encode_byte}
use Rattle.sm_model.specs.declared.track.Kind.{Kind}
use Rattle.sm_model.specs.declared.track.Kind.TheVariants as kind
use Rattle.sm_model.specs.Digits.{is_digit, decimal_from, is_wide_number, wide_number_of}
use Rattle.sm_model.specs.Kinds.{kind_name}
use Rattle.sm_tag.specs.TagText as tag
use Rattle.sm_manin.specs.Values.{kind_of}
use Rattle.sm_manin.specs.Patterns.{is_target_byte, pattern_from, is_pattern}
use Rattle.sm_manout.specs.ManifestText.{is_plain, escaped, url}
use Rattle.sm_tag.proofs.WrittenTags.{not_of}

-- ---- numbers

pub own : IsNumeralModel (λ ds. list_all is_digit ds ≡ true) (decimal_from 0)
own = numerals_by_fold _ (search rules) decimal_from (search rules)

digits_plain : (b : List ℕ) → list_all is_digit b ≡ true → list_all tag.is_plain b ≡ true
digits_plain [] all = refl
digits_plain (c ∷ cs) all =
    let parts = and_parts (is_digit c) (list_all is_digit cs) all in
    let q : eqb c 34 ≡ false = not_of is_digit c 34 parts.0 refl in
    let a : eqb c 60 ≡ false = not_of is_digit c 60 parts.0 refl in
    let m : eqb c 38 ≡ false = not_of is_digit c 38 parts.0 refl in
    rw (q, a, m) (digits_plain cs parts.1)

pub wide_plain : (n : ℕ) → n < 2 ^ 64 → list_all tag.is_plain (decimal n) ≡ true
wide_plain n lt = digits_plain (decimal n) (digits_decimal own n lt)

pub wide_again : (n : ℕ) → n < 2 ^ 64 → wide_number_of (decimal n) ≡ Some n
unfolding wide_number_of is_wide_number
wide_again n lt =
    let some : ltb 0 (length (decimal n)) ≡ true = lt-ltb 0 (length (decimal n)) (decimal_nonempty n lt) in
    let few : leb (length (decimal n)) 20 ≡ true = le-leb (length (decimal n)) 20 (length-decimal-le 20 n (omega arith) (omega arith) (omega arith)) in
    let digits : list_all is_digit (decimal n) ≡ true = digits_decimal own n lt in
    let value : decimal_from 0 (decimal n) ≡ n = digits_value-decimal own n lt in
    let small : ltb (decimal_from 0 (decimal n)) 18446744073709551616 ≡ true = rw value (lt-ltb n 18446744073709551616 (omega arith)) in
    rw (some, few, digits, small, value) refl

-- ---- types

pub kind_again : (k : Kind) → kind_of (kind_name k) ≡ Some k
unfolding kind_of
kind_again kind.Video = refl
kind_again kind.Audio = refl
kind_again kind.Text = refl

pub kind_plain : (k : Kind) → list_all tag.is_plain (kind_name k) ≡ true
kind_plain kind.Video = refl
kind_plain kind.Audio = refl
kind_plain kind.Text = refl

-- ---- addresses

-- a byte that may stand in an address, and stands for itself in a value
abbrev is_safe : ℕ → Bool
is_safe c = is_target_byte c && tag.is_plain c

both_safe : (xs ys : List ℕ) → list_all is_safe xs ≡ true → list_all is_safe ys ≡ true → list_all is_safe (xs ++ ys) ≡ true
both_safe [] ys a b = b
both_safe (x ∷ xs) ys a b =
    let parts = and_parts (is_safe x) (list_all is_safe xs) a in and_from (is_safe x) (list_all is_safe (xs ++ ys)) parts.0 (both_safe xs ys parts.1 b)

plain_is_ascii : (b : ℕ) → 128 ≤ b → is_plain b ≡ false
plain_is_ascii b high = grind (arith, nat_tests)

plain_or : (b : ℕ) → b < 128 → (not (is_plain b) || is_safe b) ≡ true
plain_or b low = agree_below_at (λ c. not (is_plain c) || is_safe c) (λ c. true) 128 b refl low

plain_safe : (b : ℕ) → is_plain b ≡ true → is_safe b ≡ true
plain_safe b is = ⊎_elim
    (λ (low : b < 128). rw is at (plain_or b low))
    (λ (high : 128 ≤ b). let off = plain_is_ascii b high in absurd cc)
    (cases_lt b 128)

glyph_safe : (n : ℕ) → n < 16 → is_safe (digit_glyph true n) ≡ true
glyph_safe n low = agree_below_at (λ m. is_safe (digit_glyph true m)) (λ m. true) 16 n refl low

escape_safe : (b : ℕ) → list_all is_safe (percent_encode_byte b) ≡ true
unfolding percent_encode_byte
escape_safe b =
    let high : is_safe (digit_glyph true (b / 16 % 16)) ≡ true = glyph_safe (b / 16 % 16) (omega arith) in
    let low : is_safe (digit_glyph true (b % 16)) ≡ true = glyph_safe (b % 16) (omega arith) in
    and_from (is_safe 37) _ refl (and_from (is_safe (digit_glyph true (b / 16 % 16))) _ high (and_from (is_safe (digit_glyph true (b % 16))) true low refl))

one_safe : (b : ℕ) (p : Bool) → is_plain b ≡ p → list_all is_safe (cond p (b ∷ []) (percent_encode_byte b)) ≡ true
one_safe b true is = and_from (is_safe b) true (plain_safe b is) refl
one_safe b false is = escape_safe b

escaped_safe : (name : List ℕ) → list_all is_safe (escaped name) ≡ true
escaped_safe [] = refl
escaped_safe (b ∷ bs) = both_safe (cond (is_plain b) (b ∷ []) (percent_encode_byte b)) (escaped bs) (one_safe b (is_plain b) refl) (escaped_safe bs)

all_plain : (b : List ℕ) → list_all is_safe b ≡ true → list_all tag.is_plain b ≡ true
all_plain [] all = refl
all_plain (c ∷ cs) all =
    let parts = and_parts (is_safe c) (list_all is_safe cs) all in
    and_from (tag.is_plain c) (list_all tag.is_plain cs) (and_parts (is_target_byte c) (tag.is_plain c) parts.0).1 (all_plain cs parts.1)

both_plain : (xs ys : List ℕ) → list_all tag.is_plain xs ≡ true → list_all tag.is_plain ys ≡ true → list_all tag.is_plain (xs ++ ys) ≡ true
both_plain [] ys a b = b
both_plain (x ∷ xs) ys a b =
    let parts = and_parts (tag.is_plain x) (list_all tag.is_plain xs) a in and_from (tag.is_plain x) (list_all tag.is_plain (xs ++ ys)) parts.0 (both_plain xs ys parts.1 b)

pub url_plain : (name : List ℕ) → list_all tag.is_plain (url name) ≡ true
unfolding url
url_plain name =
    both_plain (codes "QualityLevels({bitrate})/Fragments(") (escaped name ++ codes "={start time})") refl (both_plain (escaped name) (codes "={start time})") (all_plain (escaped name) (escaped_safe name)) refl)

denied : (b : Bool) → not b ≡ true → b ≡ false
denied true e = absurd cc
denied false e = refl

safe_step : (c : ℕ) (cs : List ℕ) → is_safe c ≡ true → pattern_from 0 true false (c ∷ cs) ≡ pattern_from 0 true false cs
safe_step c cs is =
    let target : is_target_byte c ≡ true = (and_parts (is_target_byte c) (tag.is_plain c) is).0 in
    let brace : eqb c 123 ≡ false = denied (eqb c 123) (and_parts (not (eqb c 123)) _ (and_parts (leb 33 c) _ target).1).0 in
    let other : eqb 123 c ≡ false = ne_eqb 123 c (λ e. eqb-false c 123 brace (sym e)) in
    rw (other, target) refl

safe_list : (b rest : List ℕ) → list_all is_safe b ≡ true → pattern_from 0 true false (b ++ rest) ≡ pattern_from 0 true false rest
safe_list [] rest all = refl
safe_list (c ∷ cs) rest all =
    let parts = and_parts (is_safe c) (list_all is_safe cs) all in safe_step c (cs ++ rest) parts.0 ∙ safe_list cs rest parts.1

url_front : (rest : List ℕ) → pattern_from 0 false false (codes "QualityLevels({bitrate})/Fragments(" ++ rest) ≡ pattern_from 0 true false rest
url_front rest = refl

pub url_again : (name : List ℕ) → is_pattern (url name) ≡ true
unfolding url
url_again name = url_front (escaped name ++ codes "={start time})") ∙ safe_list (escaped name) (codes "={start time})") (escaped_safe name)
