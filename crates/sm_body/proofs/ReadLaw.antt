-- What is read to its end is a text of the grammar.
use Rattle.std.proofs.Common.{◌≡◌, ◌≢◌, ℕ, ◌+◌, ◌^◌, ◌<◌, ◌≤◌, ◌⊎◌, Bool, true, false, List, [], ◌∷◌, ◌++◌, take, refl, ap, ◌∙◌, sym, subst, arith, ⊎_elim, inl, inr, append_assoc, All, ◌-◌}
use Rattle.std.specs.Prelude.{◌==◌, ◌&&◌, not, nat_lt}
use Rattle.std.specs.Char.{is_digit}
use Rattle.std.proofs.lemmas.Bool.{cases_Bool}
use Rattle.std.proofs.lemmas.Bool.Decides.{nat_tests}
use Rattle.std.proofs.lemmas.List.{append-nil}
use Rattle.std.proofs.lemmas.List.Elements.{All-nil}
use Rattle.sm_body.specs.declared.place.Place.{Place}
use Rattle.sm_body.specs.declared.place.Place.TheVariants.{Counted, Digits, Pad, Extension, LineFeed, Data, DataReturn, DataFeed, TrailerStart, TrailerStartReturn, TrailerLine, TrailerLineReturn, Ended, Failed}
use Rattle.sm_body.specs.Places.{is_white, is_data, next_place, place_after, body_from}
use Rattle.sm_body.specs.Chunked.{IsWhite, IsTail, Text, IsText, print_text, text_body}
use Rattle.sm_body.specs.Cuts.{EndsBehind, ended, waited, skipped, taken}
use Rattle.sm_body.proofs.LineLaw.{place_after-append, digit_step, pad_first, pad_step, extension_first, extension_step}
use Rattle.sm_body.proofs.TextLaw.{text_run}
use Rattle.sm_body.proofs.BodyLaw.{body_on, text_body_is}
use Rattle.sm_body.proofs.PlaceLaw.{IsSemicolonAndText, IsAt, IsTextOf, digits_on, return_on, pad_begins, extension_begins, tail_on, tail_ends, pad_more, extension_more, data_begins, trailer_begins, data_more, data_ends, end_on, chunk_ends, trailer_on, line_on, text_ends, part_on, part_returns, start_part, start_returns, returned_part, returned_again, first_part, first_again}

-- the place and the bytes behind one byte
abbrev Keeps : Place → Type 0
Keeps p = (b : List ℕ) (c : ℕ) → IsAt p b → next_place p c ≢ Failed → IsAt (next_place p c) (b ++ c ∷ [])

to : (b : List ℕ) (p q : Place) → p ≡ q → IsAt q b → IsAt p b
to b p q e at = subst (λ (r : Place). IsAt r b) (sym e) at

by : {P : Type 0} (b : Bool) → (b ≡ true → P) → (b ≡ false → P) → P
by b if_true if_false = ⊎_elim if_true if_false (cases_Bool b)

eq_is : (a b : ℕ) → (a == b) ≡ true → a ≡ b
eq_is a b e = grind (arith, nat_tests)

eq_isnt : (a b : ℕ) → (a == b) ≡ false → a ≢ b
eq_isnt a b e f = grind (arith, nat_tests)

-- ---- digits

digits_full : (n v c : ℕ) → is_digit c 16 ≡ true → (nat_lt n 15 && nat_lt v (2 ^ 56)) ≡ false → next_place (Digits n v) c ≡ Failed
digits_full n v c hex full = grind (arith, nat_tests)

digits_room : (n v : ℕ) → (nat_lt n 15 && nat_lt v (2 ^ 56)) ≡ true → (n < 15) × (v < 2 ^ 56)
digits_room n v room = (grind (arith, nat_tests), grind (arith, nat_tests))

digits_none : (n v c : ℕ) → is_digit c 16 ≡ false → (nat_lt 0 n && nat_lt n 255) ≡ false → next_place (Digits n v) c ≡ Failed
digits_none n v c other none = grind (arith, nat_tests)

digits_some : (n : ℕ) → (nat_lt 0 n && nat_lt n 255) ≡ true → (0 < n) × (n < 255)
digits_some n some = (grind (arith, nat_tests), grind (arith, nat_tests))

digits_return : (n v c : ℕ) → c ≡ 13 → 0 < n → n < 255 → next_place (Digits n v) c ≡ LineFeed v
digits_return n v c is some room = grind (arith, nat_tests)

digits_other : (n v c : ℕ) → is_digit c 16 ≡ false → (c == 13) ≡ false → is_white c ≡ false → (c == 59) ≡ false → next_place (Digits n v) c ≡ Failed
digits_other n v c other return white semicolon = grind (arith, nat_tests)

keep_digits : (n v : ℕ) → Keeps (Digits n v)
keep_digits n v b c at fine =
    by (is_digit c 16)
    (λ hex. by (nat_lt n 15 && nat_lt v (2 ^ 56))
    (λ room. let r = digits_room n v room in to _ _ _ (digit_step n v c hex r.0 r.1) (digits_on n v c b hex r.0 at))
    (λ full. absurd (fine (digits_full n v c hex full))))
    (λ other. by (nat_lt 0 n && nat_lt n 255)
    (λ some. behind_digits other (digits_some n some).0 (digits_some n some).1)
    (λ none. absurd (fine (digits_none n v c other none))))
  where
    behind_digits : is_digit c 16 ≡ false → 0 < n → n < 255 → IsAt (next_place (Digits n v) c) (b ++ c ∷ [])
    behind_digits other some room =
        by (c == 13)
        (λ return. let is = eq_is c 13 return in to _ _ _ (digits_return n v c is some room) (subst (λ x. IsAt (LineFeed v) (b ++ x ∷ [])) (sym is) (return_on n v b some at)))
        (λ return. by (is_white c)
        (λ white. to _ _ _ (pad_first n v c white some room) (pad_begins n v c b some white at))
        (λ white. by (c == 59)
        (λ semicolon. let is = eq_is c 59 semicolon in to _ _ _ (extension_first n v c is some room) (extension_begins n v c b some is at))
        (λ semicolon. absurd (fine (digits_other n v c other return white semicolon)))))

-- ---- white space, an extension

full_pad : (k v c : ℕ) → nat_lt k 255 ≡ false → next_place (Pad k v) c ≡ Failed
full_pad k v c full = grind (arith, nat_tests)

below : (k n : ℕ) → nat_lt k n ≡ true → k < n
below k n low = grind (arith, nat_tests)

pad_return : (k v c : ℕ) → c ≡ 13 → k < 255 → next_place (Pad k v) c ≡ LineFeed v
pad_return k v c is room = grind (arith, nat_tests)

pad_other : (k v c : ℕ) → (c == 13) ≡ false → is_white c ≡ false → next_place (Pad k v) c ≡ Failed
pad_other k v c return white = grind (arith, nat_tests)

is_pad : (tail : List ℕ) → All IsWhite tail → IsTail tail
is_pad tail all = inl all

keep_pad : (k v : ℕ) → Keeps (Pad k v)
keep_pad k v b c at fine =
    by (nat_lt k 255)
    (λ room. let low = below k 255 room in by (c == 13)
    (λ return. let is = eq_is c 13 return in
    to _ _ _ (pad_return k v c is low) (subst (λ x. IsAt (LineFeed v) (b ++ x ∷ [])) (sym is) (tail_ends (All IsWhite) k v b is_pad low at)))
    (λ return. by (is_white c)
    (λ white. to _ _ _ (pad_step k v c white low) (tail_on (All IsWhite) k v c b (pad_more c white) at))
    (λ white. absurd (fine (pad_other k v c return white)))))
    (λ full. absurd (fine (full_pad k v c full)))

full_extension : (k v c : ℕ) → nat_lt k 255 ≡ false → next_place (Extension k v) c ≡ Failed
full_extension k v c full = grind (arith, nat_tests)

extension_return : (k v c : ℕ) → c ≡ 13 → k < 255 → next_place (Extension k v) c ≡ LineFeed v
extension_return k v c is room = grind (arith, nat_tests)

extension_feed : (k v c : ℕ) → c ≡ 10 → next_place (Extension k v) c ≡ Failed
extension_feed k v c is = grind (arith, nat_tests)

is_byte : (c : ℕ) → (c == 13) ≡ false → (c == 10) ≡ false → (not (c == 13) && not (c == 10)) ≡ true
is_byte c return feed = rw (return, feed) refl

is_extension : (tail : List ℕ) → IsSemicolonAndText tail → IsTail tail
is_extension tail is = inr is

keep_extension : (k v : ℕ) → Keeps (Extension k v)
keep_extension k v b c at fine =
    by (nat_lt k 255)
    (λ room. let low = below k 255 room in by (c == 13)
    (λ return. let is = eq_is c 13 return in
    to _ _ _ (extension_return k v c is low) (subst (λ x. IsAt (LineFeed v) (b ++ x ∷ [])) (sym is) (tail_ends IsSemicolonAndText k v b is_extension low at)))
    (λ return. by (c == 10)
    (λ feed. absurd (fine (extension_feed k v c (eq_is c 10 feed))))
    (λ feed. let byte = is_byte c return feed in to _ _ _ (extension_step k v c byte low) (tail_on IsSemicolonAndText k v c b (extension_more c byte) at))))
    (λ full. absurd (fine (full_extension k v c full)))

-- ---- data

feed_zero : (v c : ℕ) → c ≡ 10 → v ≡ 0 → next_place (LineFeed v) c ≡ TrailerStart 0
feed_zero v c is none = grind (arith, nat_tests)

feed_some : (v c : ℕ) → c ≡ 10 → (v == 0) ≡ false → next_place (LineFeed v) c ≡ Data v
feed_some v c is some = grind (arith, nat_tests)

feed_other : (v c : ℕ) → (c == 10) ≡ false → next_place (LineFeed v) c ≡ Failed
feed_other v c other = grind (arith, nat_tests)

above_zero : (v : ℕ) → (v == 0) ≡ false → 0 < v
above_zero v some = let ne : v ≢ 0 = eq_isnt v 0 some in omega arith

keep_feed : (v : ℕ) → Keeps (LineFeed v)
keep_feed v b c at fine =
    by (c == 10)
    (λ feed. let is = eq_is c 10 feed in by (v == 0)
    (λ none. let zero = eq_is v 0 none in
    to _ _ _ (feed_zero v c is zero) (subst (λ x. IsAt (TrailerStart 0) (b ++ x ∷ [])) (sym is) (trailer_begins v b zero at)))
    (λ some. to _ _ _ (feed_some v c is some) (subst (λ x. IsAt (Data v) (b ++ x ∷ [])) (sym is) (data_begins v b (above_zero v some) at))))
    (λ other. absurd (fine (feed_other v c other)))

data_last : (left c : ℕ) → left < 2 → next_place (Data left) c ≡ DataReturn
data_last left c last = grind (arith, nat_tests)

data_step : (left c : ℕ) → 1 < left → next_place (Data left) c ≡ Data (left - 1)
data_step left c more = grind (arith, nat_tests)

keep_data : (left : ℕ) → Keeps (Data left)
keep_data left b c at fine =
    by (nat_lt left 2)
    (λ last. let low = below left 2 last in to _ _ _ (data_last left c low) (data_ends left c b low at))
    (λ more. let high : 1 < left = grind (arith, nat_tests) in to _ _ _ (data_step left c high) (data_more left c b high at))

return_step : (c : ℕ) → c ≡ 13 → next_place DataReturn c ≡ DataFeed
return_step c is = grind (arith, nat_tests)

return_other : (c : ℕ) → (c == 13) ≡ false → next_place DataReturn c ≡ Failed
return_other c other = grind (arith, nat_tests)

keep_return : Keeps DataReturn
keep_return b c at fine =
    by (c == 13)
    (λ return. let is = eq_is c 13 return in to _ _ _ (return_step c is) (subst (λ x. IsAt DataFeed (b ++ x ∷ [])) (sym is) (end_on 13 [] b at)))
    (λ other. absurd (fine (return_other c other)))

end_step : (c : ℕ) → c ≡ 10 → next_place DataFeed c ≡ Digits 0 0
end_step c is = grind (arith, nat_tests)

end_other : (c : ℕ) → (c == 10) ≡ false → next_place DataFeed c ≡ Failed
end_other c other = grind (arith, nat_tests)

keep_end : Keeps DataFeed
keep_end b c at fine =
    by (c == 10)
    (λ feed. let is = eq_is c 10 feed in to _ _ _ (end_step c is) (subst (λ x. IsAt (Digits 0 0) (b ++ x ∷ [])) (sym is) (chunk_ends b at)))
    (λ other. absurd (fine (end_other c other)))

-- ---- the trailer

start_full : (k c : ℕ) → nat_lt k 8191 ≡ false → next_place (TrailerStart k) c ≡ Failed
start_full k c full = grind (arith, nat_tests)

start_return : (k c : ℕ) → c ≡ 13 → k < 8191 → next_place (TrailerStart k) c ≡ TrailerStartReturn (k + 1)
start_return k c is room = grind (arith, nat_tests)

start_other : (k c : ℕ) → (c == 13) ≡ false → k < 8191 → next_place (TrailerStart k) c ≡ TrailerLine (k + 1)
start_other k c other room = grind (arith, nat_tests)

keep_start : (k : ℕ) → Keeps (TrailerStart k)
keep_start k b c at fine =
    by (nat_lt k 8191)
    (λ room. let low = below k 8191 room in by (c == 13)
    (λ return. let is = eq_is c 13 return in to _ _ _ (start_return k c is low) (trailer_on _ _ k c b (start_returns c is) at))
    (λ other. to _ _ _ (start_other k c other low) (trailer_on _ _ k c b (start_part c other) at)))
    (λ full. absurd (fine (start_full k c full)))

line_full : (k c : ℕ) → nat_lt k 8191 ≡ false → next_place (TrailerLine k) c ≡ Failed
line_full k c full = grind (arith, nat_tests)

line_return : (k c : ℕ) → c ≡ 13 → k < 8191 → next_place (TrailerLine k) c ≡ TrailerLineReturn (k + 1)
line_return k c is room = grind (arith, nat_tests)

line_other : (k c : ℕ) → (c == 13) ≡ false → k < 8191 → next_place (TrailerLine k) c ≡ TrailerLine (k + 1)
line_other k c other room = grind (arith, nat_tests)

keep_line : (k : ℕ) → Keeps (TrailerLine k)
keep_line k b c at fine =
    by (nat_lt k 8191)
    (λ room. let low = below k 8191 room in by (c == 13)
    (λ return. let is = eq_is c 13 return in to _ _ _ (line_return k c is low) (trailer_on _ _ k c b (part_returns c is) at))
    (λ other. to _ _ _ (line_other k c other low) (trailer_on _ _ k c b (part_on c other) at)))
    (λ full. absurd (fine (line_full k c full)))

first_end : (k c : ℕ) → c ≡ 10 → k < 8192 → next_place (TrailerStartReturn k) c ≡ Ended
first_end k c is room = grind (arith, nat_tests)

first_long : (k c : ℕ) → (c == 10) ≡ true → nat_lt k 8192 ≡ false → next_place (TrailerStartReturn k) c ≡ Failed
first_long k c feed full = grind (arith, nat_tests)

first_full : (k c : ℕ) → (c == 10) ≡ false → nat_lt k 8191 ≡ false → next_place (TrailerStartReturn k) c ≡ Failed
first_full k c other full = grind (arith, nat_tests)

first_return : (k c : ℕ) → c ≡ 13 → k < 8191 → next_place (TrailerStartReturn k) c ≡ TrailerLineReturn (k + 1)
first_return k c is room = grind (arith, nat_tests)

first_other : (k c : ℕ) → (c == 10) ≡ false → (c == 13) ≡ false → k < 8191 → next_place (TrailerStartReturn k) c ≡ TrailerLine (k + 1)
first_other k c feed other room = grind (arith, nat_tests)

keep_first : (k : ℕ) → Keeps (TrailerStartReturn k)
keep_first k b c at fine =
    by (c == 10)
    (λ feed. let is = eq_is c 10 feed in by (nat_lt k 8192)
    (λ room. let low = below k 8192 room in to _ _ _ (first_end k c is low) (subst (λ x. IsAt Ended (b ++ x ∷ [])) (sym is) (text_ends k b low at)))
    (λ full. absurd (fine (first_long k c feed full))))
    (λ feed. by (nat_lt k 8191)
    (λ room. let low = below k 8191 room in by (c == 13)
    (λ return. let is = eq_is c 13 return in to _ _ _ (first_return k c is low) (trailer_on _ _ k c b (first_again c is) at))
    (λ other. to _ _ _ (first_other k c feed other low) (trailer_on _ _ k c b (first_part c (eq_isnt c 10 feed) other) at)))
    (λ full. absurd (fine (first_full k c feed full))))

returned_full : (k c : ℕ) → nat_lt k 8191 ≡ false → next_place (TrailerLineReturn k) c ≡ Failed
returned_full k c full = grind (arith, nat_tests)

returned_feed : (k c : ℕ) → c ≡ 10 → k < 8191 → next_place (TrailerLineReturn k) c ≡ TrailerStart (k + 1)
returned_feed k c is room = grind (arith, nat_tests)

returned_return : (k c : ℕ) → c ≡ 13 → k < 8191 → next_place (TrailerLineReturn k) c ≡ TrailerLineReturn (k + 1)
returned_return k c is room = grind (arith, nat_tests)

returned_other : (k c : ℕ) → (c == 10) ≡ false → (c == 13) ≡ false → k < 8191 → next_place (TrailerLineReturn k) c ≡ TrailerLine (k + 1)
returned_other k c feed other room = grind (arith, nat_tests)

keep_returned : (k : ℕ) → Keeps (TrailerLineReturn k)
keep_returned k b c at fine =
    by (nat_lt k 8191)
    (λ room. let low = below k 8191 room in by (c == 10)
    (λ feed. let is = eq_is c 10 feed in to _ _ _ (returned_feed k c is low) (subst (λ x. IsAt (TrailerStart (k + 1)) (b ++ x ∷ [])) (sym is) (line_on k b at)))
    (λ feed. by (c == 13)
    (λ return. let is = eq_is c 13 return in to _ _ _ (returned_return k c is low) (trailer_on _ _ k c b (returned_again c is) at))
    (λ other. to _ _ _ (returned_other k c feed other low) (trailer_on _ _ k c b (returned_part c (eq_isnt c 10 feed) other) at))))
    (λ full. absurd (fine (returned_full k c full)))

keep : (p : Place) → Keeps p
keep (Counted left) b c at fine = absurd at
keep (Digits n v) b c at fine = keep_digits n v b c at fine
keep (Pad k v) b c at fine = keep_pad k v b c at fine
keep (Extension k v) b c at fine = keep_extension k v b c at fine
keep (LineFeed v) b c at fine = keep_feed v b c at fine
keep (Data left) b c at fine = keep_data left b c at fine
keep DataReturn b c at fine = keep_return b c at fine
keep DataFeed b c at fine = keep_end b c at fine
keep (TrailerStart k) b c at fine = keep_start k b c at fine
keep (TrailerStartReturn k) b c at fine = keep_first k b c at fine
keep (TrailerLine k) b c at fine = keep_line k b c at fine
keep (TrailerLineReturn k) b c at fine = keep_returned k b c at fine
keep Ended b c at fine = tt
keep Failed b c at fine = tt

-- ---- whole texts

pub failed_stays : (bytes : List ℕ) → place_after Failed bytes ≡ Failed
failed_stays [] = refl
failed_stays (c ∷ bytes) = failed_stays bytes

at_end : (p : Place) (b bytes : List ℕ) → IsAt p b → place_after p bytes ≡ Ended → IsTextOf (b ++ bytes)
at_end p b [] at ends = subst IsTextOf (sym (append-nil b)) (subst (λ (q : Place). IsAt q b) ends at)
at_end p b (c ∷ bytes) at ends =
    let fine : next_place p c ≢ Failed = λ fails. ended_isnt_failed (sym ends ∙ ap (λ (q : Place). place_after q bytes) fails ∙ failed_stays bytes) in
    subst IsTextOf (append_assoc b (c ∷ []) bytes) (at_end (next_place p c) (b ++ c ∷ []) bytes (go_on fine) ends)
  where
    ended_isnt_failed : Ended ≡ Failed → ⊥
    ended_isnt_failed e = cc

    go_on : next_place p c ≢ Failed → IsAt (next_place p c) (b ++ c ∷ [])
    go_on fine = keep p b c at fine

at_start : IsAt (Digits 0 0) []
at_start = record {
  digits = [];
  behind = record { chunks = []; are = All-nil _; splits = refl };
  hex = All-nil _;
  long = refl;
  few = omega arith;
  value = refl;
}

-- what is read to its end is a text, and its body is the data of the chunks
pub end_is_text : (b : List ℕ) → place_after (Digits 0 0) b ≡ Ended → (t : Text) × IsText t × (b ≡ print_text t) × (body_from (Digits 0 0) b ≡ text_body t)
end_is_text b ends =
    let t = at_end (Digits 0 0) [] b at_start ends in
    (t.0, t.1, t.2, ap (body_from (Digits 0 0)) t.2 ∙ text_body_is t.0 t.1)

-- what failed begins no text
pub failed_is_none : (b more : List ℕ) (t : Text) → IsText t → b ++ more ≡ print_text t → place_after (Digits 0 0) b ≢ Failed
failed_is_none b more t is same fails = contradicts (sym (text_run t is) ∙ ap (place_after (Digits 0 0)) (sym same) ∙ place_after-append (Digits 0 0) b more
    ∙ ap (λ (q : Place). place_after q more) fails ∙ failed_stays more)
  where
    contradicts : Ended ≡ Failed → ⊥
    contradicts e = cc

-- ---- pieces

first_none : (p : Place) (given : List ℕ) → is_data p ≡ false → body_from p (take 1 given) ≡ []
first_none p [] frame = refl
first_none p (x ∷ given) frame = rw frame refl

zero_or_one : (n : ℕ) → n ≤ 1 → (n ≡ 0) ⊎ (n ≡ 1)
zero_or_one n few = by (nat_lt n 1) (λ low. inl (grind (arith, nat_tests))) (λ high. inr (grind (arith, nat_tests)))

one_skipped : (p : Place) (given : List ℕ) (n : ℕ) → is_data p ≡ false → n ≤ 1 → body_from p (take n given) ≡ []
one_skipped p given n frame few = ⊎_elim
    (λ (none : n ≡ 0). ap (λ k. body_from p (take k given)) none)
    (λ (one : n ≡ 1). ap (λ k. body_from p (take k given)) one ∙ first_none p given frame)
    (zero_or_one n few)

-- steps that pass bytes to the end of the body pass what ends there, and hand on its body
pub cut_anywhere : (p : Place) (passed handed : List ℕ) → EndsBehind p passed handed → (place_after p passed ≡ Ended) × (handed ≡ body_from p passed)
cut_anywhere p passed handed (ended p' new ps hs given n gives is none) =
    (ap (place_after p) is ∙ gives.3, none ∙ sym (ap (body_from p) is ∙ one_skipped p given n gives.0 gives.1))
cut_anywhere p passed handed (waited p' new ps hs given gives later) =
    let on = cut_anywhere new passed handed later in
    let same = gives.1 in
    (ap (λ (q : Place). place_after q passed) (sym same) ∙ on.0, on.1 ∙ ap (λ (q : Place). body_from q passed) same)
cut_anywhere p passed handed (skipped p' new ps hs given rest n gives later is) =
    let on = cut_anywhere new rest handed later in
    let few : n ≤ 1 = omega (arith, gives.1) in (
      ap (place_after p) is ∙ place_after-append p (take n given) rest ∙ ap (λ (q : Place). place_after q rest) (sym gives.3) ∙ on.0,
      on.1 ∙ ap (λ (q : Place). body_from q rest) gives.3
          ∙ sym (ap (body_from p) is ∙ body_on p (take n given) rest ∙ ap (λ x. x ++ body_from (place_after p (take n given)) rest) (one_skipped p given n gives.0 few)),
    )
cut_anywhere p passed handed (taken p' new ps hs given rest others n gives later is joins) =
    let on = cut_anywhere new rest others later in (
      ap (place_after p) is ∙ place_after-append p (take n given) rest ∙ ap (λ (q : Place). place_after q rest) (sym gives.3) ∙ on.0,
      joins ∙ ap (λ x. take n given ++ x) (on.1 ∙ ap (λ (q : Place). body_from q rest) gives.3)
          ∙ sym (ap (body_from p) is ∙ body_on p (take n given) rest ∙ ap (λ x. x ++ body_from (place_after p (take n given)) rest) gives.4),
    )
