-- Pieces of a text, and what they list.
use Rattle.std.proofs.Common.{◌≡◌, ◌≤◌, ◌+◌, ◌<◌, ◌^◌, ◌/◌, ◌%◌, ℕ, zero, suc, Bool, true, false, not, cond, eqb, leb, List, [], ◌∷◌, ◌++◌, length, get_or, refl, sym, ap, subst, ◌∙◌, append_assoc, arith}
use Rattle.std.specs.Prelude.{decimal}
use Rattle.std.specs.List.{list_all, AllByRecursion, prefix_len, flat_map}
use Rattle.std.specs.Fmt.{digit_glyph}
use Rattle.std.proofs.lemmas.Bool.{and_parts, eqb-true, eq-eqb, agree_below_at}
use Rattle.std.proofs.lemmas.List.{append-nil, length-take}
use Rattle.std.proofs.lemmas.Fmt.{digits_decimal}
use Rattle.percent_encoding.specs.Percent.{percent_encode_byte}
use Rattle.hex.specs.Hex.{encode_upper, encode_with, upper_digits}
use Rattle.sm_model.specs.declared.address.Address.{Address}
use Rattle.sm_model.specs.Digits.{is_digit}
use Rattle.sm_model.specs.Names.{is_name, is_name_byte, first_wrong}
use Rattle.sm_model.specs.Channels.{is_fourcc, is_fourcc_byte}
use Rattle.sm_manout.specs.ManifestText.{escaped, is_plain}
use Rattle.sm_tag.proofs.WrittenTags.{not_of}
use Rattle.sm_manout.proofs.ReadValues.{own}
use Rattle.sm_manout.specs.Shown.{Open, ended_by, lists_from, after_line, line_starts, at_bitrates}

abbrev pub has_no : ℕ → List ℕ → Bool
has_no m v = list_all (λ c. not (eqb c m)) v

not_true : (b : Bool) → not b ≡ true → b ≡ false
not_true true e = absurd (cc)
not_true false e = refl

same_eqb : (m : ℕ) → eqb m m ≡ true
same_eqb m = eq-eqb m m refl

-- ---- pieces

pub ended_front : (m : ℕ) (piece p more : List ℕ) → (rest : List (List ℕ)) × (ended_by m piece (p ++ more) ≡ ended_by m piece p ++ rest)
ended_front m piece [] more = (ended_by m piece more, refl)
ended_front m piece (c ∷ cs) more = by_test (eqb c m) (ended_front m [] cs more) (ended_front m (piece ++ c ∷ []) cs more)
  where
    by_test : (b : Bool) → ((rest : List (List ℕ)) × (ended_by m [] (cs ++ more) ≡ ended_by m [] cs ++ rest))
        → ((rest : List (List ℕ)) × (ended_by m (piece ++ c ∷ []) (cs ++ more) ≡ ended_by m (piece ++ c ∷ []) cs ++ rest))
        → (rest : List (List ℕ)) × (cond b (piece ∷ ended_by m [] (cs ++ more)) (ended_by m (piece ++ c ∷ []) (cs ++ more)) ≡ cond b (piece ∷ ended_by m [] cs) (ended_by m (piece ++ c ∷ []) cs) ++ rest)
    by_test true h k = (h.0, ap (λ (l : List (List ℕ)). piece ∷ l) h.1)
    by_test false h k = k

pub ended_piece : (m : ℕ) (piece v rest : List ℕ) → has_no m v ≡ true → ended_by m piece (v ++ (m ∷ rest)) ≡ (piece ++ v) ∷ ended_by m [] rest
ended_piece m piece [] rest all = rw (same_eqb m, append-nil piece) refl
ended_piece m piece (c ∷ cs) rest all =
    let parts = and_parts (not (eqb c m)) (has_no m cs) all in
    let e : eqb c m ≡ false = not_true (eqb c m) parts.0 in
    rw e (ended_piece m (piece ++ c ∷ []) cs rest parts.1 ∙ ap (λ (x : List ℕ). x ∷ ended_by m [] rest) (append_assoc piece (c ∷ []) cs))

-- ---- all of a list

pub all_split : {X : Type 0} (P : X → Type 0) (xs ys : List X) → AllByRecursion P (xs ++ ys) → AllByRecursion P xs × AllByRecursion P ys
all_split P [] ys all = (tt, all)
all_split P (x ∷ xs) ys all = let parts = all_split P xs ys all.1 in ((all.0, parts.0), parts.1)

pub all_join : {X : Type 0} (P : X → Type 0) (xs ys : List X) → AllByRecursion P xs → AllByRecursion P ys → AllByRecursion P (xs ++ ys)
all_join P [] ys all more = more
all_join P (x ∷ xs) ys all more = (all.0, all_join P xs ys all.1 more)

-- what the first lines list is listed by all
pub lists_front : (P : Address → Type 0) (o : Open) (xs ys : List (List ℕ)) → AllByRecursion P (lists_from o (xs ++ ys)) → AllByRecursion P (lists_from o xs)
lists_front P o [] ys all = tt
lists_front P o (x ∷ xs) ys all =
    let here = flat_map (at_bitrates o) (line_starts x) in
    let parts = all_split P here (lists_from (after_line o x) (xs ++ ys)) all in
    all_join P here (lists_from (after_line o x) xs) parts.0 (lists_front P (after_line o x) xs ys parts.1)

-- what a text lists, read from there on
abbrev pub Good : (Address → Type 0) → Open → List ℕ → Type 0
Good P o text = AllByRecursion P (lists_from o (ended_by 10 [] text))

pub line_good : (P : Address → Type 0) (o : Open) (line rest : List ℕ) → has_no 10 line ≡ true → AllByRecursion P (flat_map (at_bitrates o) (line_starts line))
    → Good P (after_line o line) rest → Good P o (line ++ (10 ∷ rest))
line_good P o line rest none here go =
    let T : List (List ℕ) → Type 0 = λ ls. AllByRecursion P (lists_from o ls) in
    subst T (sym (ended_piece 10 [] line rest none)) (all_join P (flat_map (at_bitrates o) (line_starts line)) (lists_from (after_line o line) (ended_by 10 [] rest)) here go)

-- ---- values

pub none_from : (p : ℕ → Bool) (m : ℕ) → p m ≡ false → (b : List ℕ) → list_all p b ≡ true → has_no m b ≡ true
none_from p m other [] all = refl
none_from p m other (c ∷ cs) all =
    let parts = and_parts (p c) (list_all p cs) all in
    let q : eqb c m ≡ false = not_of p c m parts.0 other in
    rw q (none_from p m other cs parts.1)

pub decimal_none : (m n : ℕ) → is_digit m ≡ false → n < 2 ^ 64 → has_no m (decimal n) ≡ true
decimal_none m n other lt = none_from is_digit m other (decimal n) (digits_decimal own n lt)

prefix_all : (p : ℕ → Bool) (b : List ℕ) → length b ≤ prefix_len p b → list_all p b ≡ true
prefix_all p [] long = refl
prefix_all p (c ∷ cs) long = tested (p c) refl long (λ rest. prefix_all p cs rest)
  where
    tested : (b : Bool) → p c ≡ b → length (c ∷ cs) ≤ cond b (1 + prefix_len p cs) 0 → (length cs ≤ prefix_len p cs → list_all p cs ≡ true) → list_all p (c ∷ cs) ≡ true
    tested true is more others = let rest = others (omega arith) in rw (is, rest) refl
    tested false is more others = absurd (omega arith)

name_bytes : (b : List ℕ) → is_name b ≡ true → list_all is_name_byte b ≡ true
unfolding is_name first_wrong
name_bytes b is =
    let second = and_parts (leb 1 (length b)) _ is in
    let third = and_parts (leb (length b) 64) _ second.1 in
    let right = eqb-true _ (length b) third.1 in
    let taken = length-take (prefix_len is_name_byte b) b in
    prefix_all is_name_byte b (omega (arith, right, taken))

pub name_none : (m : ℕ) (b : List ℕ) → is_name_byte m ≡ false → is_name b ≡ true → has_no m b ≡ true
name_none m b other is = none_from is_name_byte m other b (name_bytes b is)

pub fourcc_none : (b : List ℕ) → is_fourcc b ≡ true → has_no 10 b ≡ true
fourcc_none b is = none_from is_fourcc_byte 10 refl b (and_parts (leb (length b) 4) _ is).1

table_none : (ts : List ℕ) (i : ℕ) → has_no 10 ts ≡ true → not (eqb (get_or ts i 0) 10) ≡ true
table_none [] i all = refl
table_none (t ∷ ts) zero all = (and_parts (not (eqb t 10)) (has_no 10 ts) all).0
table_none (t ∷ ts) (suc i) all = table_none ts i (and_parts (not (eqb t 10)) (has_no 10 ts) all).1

pub private_none : (b : List ℕ) → has_no 10 (encode_upper b) ≡ true
unfolding encode_with
private_none [] = refl
private_none (c ∷ cs) =
    let high : not (eqb (get_or upper_digits (c / 16) 0) 10) ≡ true = table_none upper_digits (c / 16) refl in
    let low : not (eqb (get_or upper_digits (c % 16) 0) 10) ≡ true = table_none upper_digits (c % 16) refl in
    rw (high, low) (private_none cs)

pub both_none : (m : ℕ) (x y : List ℕ) → has_no m x ≡ true → has_no m y ≡ true → has_no m (x ++ y) ≡ true
both_none m [] y none others = others
both_none m (c ∷ cs) y none others =
    let parts = and_parts (not (eqb c m)) (has_no m cs) none in
    let rest = both_none m cs y parts.1 others in
    rw (parts.0, rest) refl

glyph_none : (n : ℕ) → n < 16 → not (eqb (digit_glyph true n) 10) ≡ true
glyph_none n low = agree_below_at (λ m. not (eqb (digit_glyph true m) 10)) (λ m. true) 16 n refl low

escape_none : (b : ℕ) → has_no 10 (percent_encode_byte b) ≡ true
unfolding percent_encode_byte
escape_none b =
    let high : not (eqb (digit_glyph true (b / 16 % 16)) 10) ≡ true = glyph_none (b / 16 % 16) (omega arith) in
    let low : not (eqb (digit_glyph true (b % 16)) 10) ≡ true = glyph_none (b % 16) (omega arith) in
    rw (high, low) refl

byte_none : (b : ℕ) (p : Bool) → is_plain b ≡ p → has_no 10 (cond p (b ∷ []) (percent_encode_byte b)) ≡ true
byte_none b true is = let q : eqb b 10 ≡ false = not_of is_plain b 10 is refl in rw q refl
byte_none b false is = escape_none b

pub escaped_none : (b : List ℕ) → has_no 10 (escaped b) ≡ true
escaped_none [] = refl
escaped_none (b ∷ bs) = both_none 10 (cond (is_plain b) (b ∷ []) (percent_encode_byte b)) (escaped bs) (byte_none b (is_plain b) refl) (escaped_none bs)
