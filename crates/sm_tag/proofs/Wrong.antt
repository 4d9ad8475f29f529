-- What follows a byte that fits nothing doesn't mend it.
use Rattle.std.proofs.Common.{◌≡◌, ◌⊎◌, inl, inr, ◌<◌, ◌≤◌, ℕ, Bool, true, false, ◌&&◌, ◌||◌, cond, eqb, ltb, List, [], ◌∷◌, ◌++◌, length, drop, Option, Some, None, Result, Ok, Err, refl, ap, sym, ◌∙◌, subst, append_assoc, arith, length-append}
use Rattle.std.specs.Prelude.{codes, encode_utf8, nat_eq, MatchBool}
use Rattle.std.specs.List.{starts_with}
use Rattle.std.proofs.lemmas.Bool.{lt-ltb, le-ltb, ltb-true, ltb-false}
use Rattle.std.proofs.lemmas.Bool.Decides.{Decides-eqb}
use Rattle.std.proofs.lemmas.Slice.Eq.{starts_is}
use Rattle.sm_model.specs.declared.tag.Attribute.{Attribute}
use Rattle.sm_tag.specs.declared.grammar.Markup.{Markup}
use Rattle.sm_tag.specs.declared.grammar.Markup.TheVariants.{Skipped, Finish}
use Rattle.sm_model.specs.Digits.{is_digit, decimal_from}
use Rattle.sm_tag.specs.TagBytes.{is_tag_start, is_tag_byte, is_space, prefix, remaining}
use Rattle.sm_tag.specs.TagParts.{Stop, short, wrong, ◌>>=◌, name_at, byte_at, quote_at, word_at, entity_at, or_else, is_scalar, number_end, number_at, reference_at, piece_at, Values, refused, closed, goes_on}
use Rattle.sm_tag.specs.TagParts.{opening_at, naming, AttributeAt, unopened, opened, mark_behind, mark_at, Tails, unmarked, ended, broken, twice, another}
use Rattle.sm_tag.specs.TagMarkup.{past_word, finish_at, comment_at, instruction_at, starting, Starts, unnamed, named, Markups}
use Rattle.sm_tag.proofs.Unique.{pairs, triples}
use Rattle.sm_tag.proofs.WrittenTags.{front_until, behind_until}
use Rattle.sm_tag.proofs.Standing.{stops}
use Rattle.sm_tag.proofs.GrammarSound.{split_is, prefix_all, starts_made, byte_made, reference_made, opening_made, attribute_made, chosen}
use Rattle.sm_tag.proofs.GrammarRead.{reference_read, opening_read, attribute_read}

-- a fault of the first part, or of what follows it
wrong_part : {A B : Type 0} (r : Result A Stop) (f : A → Result B Stop) → (r >>= f) ≡ Err wrong → (r ≡ Err wrong) ⊎ ((x : A) × (r ≡ Ok x) × (f x ≡ Err wrong))
wrong_part (Ok x) f e = inr (x, refl, e)
wrong_part (Err s) f e = inl (let same : s ≡ wrong = cc in ap (λ (t : Stop). Err t) same)

or_wrong : {A : Type 0} (r s : Result A Stop) → or_else r s ≡ Err wrong → (r ≡ Err wrong) × (s ≡ Err wrong)
or_wrong (Ok x) s e = cc
or_wrong (Err short) s e = cc
or_wrong (Err wrong) s e = (refl, e)

-- what the parts make of what they read
abbrev named_rest : List ℕ → List ℕ → Result (List ℕ × List ℕ) Stop
named_rest n rest = Ok (n, rest)

abbrev stands_for : ℕ → List ℕ → Result (ℕ × List ℕ) Stop
stands_for x rest = Ok (x, rest)

abbrev going : ℕ × List ℕ → Result (Bool × List ℕ × List ℕ) Stop
going x = Ok (true, encode_utf8 x.0, x.1)

abbrev quoted : List ℕ → ℕ × List ℕ → Result (List ℕ × ℕ × List ℕ) Stop
quoted name q = Ok (name, q.0, q.1)

abbrev slashed : List ℕ → Result (Option Bool × List ℕ) Stop
slashed x = Ok (Some true, x)

abbrev at_name : List ℕ → Result (Option Bool × List ℕ) Stop
at_name x = Ok (None, x)

abbrev skips : List ℕ → Result (Markup × List ℕ) Stop
skips x = Ok (Skipped, x)

abbrev finishing : List ℕ → List ℕ → Result (Markup × List ℕ) Stop
finishing name x = Ok (Finish name, x)

-- the two reasons are apart, and apart from a success
no_short : (X : Type 0) (r : Result X Stop) → r ≡ Err short → r ≡ Err wrong → ⊥
no_short X (Ok x) e f = cc
no_short X (Err short) e f = cc
no_short X (Err wrong) e f = cc

no_success : (X : Type 0) (r : Result X Stop) (x : X) (s : Stop) → r ≡ Err s → r ≡ Ok x → ⊥
no_success X (Ok y) x s e f = cc
no_success X (Err t) x s e f = cc

-- ---- bytes of a class

-- where something is left, more changes nothing
class_more : (p : ℕ → Bool) (b more : List ℕ) (c : ℕ) (cs : List ℕ) → remaining p b ≡ c ∷ cs → (prefix p (b ++ more) ≡ prefix p b) × (remaining p (b ++ more) ≡ c ∷ cs ++ more)
class_more p b more c cs e =
    let all : b ++ more ≡ prefix p b ++ (c ∷ cs ++ more) = ap (λ (l : List ℕ). l ++ more) (split_is p b ∙ ap (λ (l : List ℕ). prefix p b ++ l) e) ∙ append_assoc (prefix p b) (c ∷ cs) more in
    let ends = stops p b c cs e in
    (ap (prefix p) all ∙ front_until p (prefix p b) c (cs ++ more) (prefix_all p b) ends, ap (remaining p) all ∙ behind_until p (prefix p b) c (cs ++ more) (prefix_all p b) ends)

left_more : (p : ℕ → Bool) (b more : List ℕ) → (remaining p b ≡ [] → ⊥) → remaining p (b ++ more) ≡ remaining p b ++ more
left_more p b more some = by_left (remaining p b) refl
  where
    by_left : (l : List ℕ) → remaining p b ≡ l → remaining p (b ++ more) ≡ remaining p b ++ more
    by_left [] e = absurd (some e)
    by_left (c ∷ cs) e = (class_more p b more c cs e).1 ∙ ap (λ (l : List ℕ). l ++ more) (sym e)

name_wrong : (b more : List ℕ) → name_at b ≡ Err wrong → name_at (b ++ more) ≡ Err wrong
unfolding name_at
name_wrong [] more e = cc
name_wrong (c ∷ cs) more e = tested (is_tag_start c) refl e
  where
    tested : (t : Bool) → is_tag_start c ≡ t → cond {A = Result (List ℕ × List ℕ) Stop} t (Ok (prefix is_tag_byte (c ∷ cs), remaining is_tag_byte (c ∷ cs))) (Err wrong) ≡ Err wrong
        → cond {A = Result (List ℕ × List ℕ) Stop} (is_tag_start c) (Ok (prefix is_tag_byte (c ∷ cs ++ more), remaining is_tag_byte (c ∷ cs ++ more))) (Err wrong) ≡ Err wrong
    tested true s f = cc
    tested false s f = rw s refl

two : {a b d f : List ℕ} → a ≡ d → b ≡ f → named_rest a b ≡ named_rest d f
two p q = rw (p, q) refl

name_more : (b more n : List ℕ) (c : ℕ) (cs : List ℕ) → name_at b ≡ Ok (n, c ∷ cs) → name_at (b ++ more) ≡ Ok (n, c ∷ cs ++ more)
unfolding name_at
name_more [] more n c cs e = cc
name_more (x ∷ xs) more n c cs e = tested (is_tag_start x) refl e
  where
    tested : (t : Bool) → is_tag_start x ≡ t → cond {A = Result (List ℕ × List ℕ) Stop} t (Ok (prefix is_tag_byte (x ∷ xs), remaining is_tag_byte (x ∷ xs))) (Err wrong) ≡ Ok (n, c ∷ cs)
        → cond {A = Result (List ℕ × List ℕ) Stop} (is_tag_start x) (Ok (prefix is_tag_byte ((x ∷ xs) ++ more), remaining is_tag_byte ((x ∷ xs) ++ more))) (Err wrong) ≡ Ok (n, c ∷ cs ++ more)
    tested false s f = cc
    tested true s f =
        let same = pairs _ refl f in
        let w = class_more is_tag_byte (x ∷ xs) more c cs same.1 in
        ap (λ (t : Bool). cond {A = Result (List ℕ × List ℕ) Stop} t (named_rest (prefix is_tag_byte ((x ∷ xs) ++ more)) (remaining is_tag_byte ((x ∷ xs) ++ more))) (Err wrong)) s ∙ two
        (w.0 ∙ same.0) w.1

byte_wrong : (k : ℕ) (b more : List ℕ) → byte_at k b ≡ Err wrong → byte_at k (b ++ more) ≡ Err wrong
byte_wrong k [] more e = cc
byte_wrong k (c ∷ cs) more e = tested (eqb c k) e
  where
    tested : (t : Bool) → cond {A = Result (List ℕ) Stop} t (Ok cs) (Err wrong) ≡ Err wrong → cond {A = Result (List ℕ) Stop} t (Ok (cs ++ more)) (Err wrong) ≡ Err wrong
    tested true f = cc
    tested false f = refl

byte_more : (k : ℕ) (b more rest : List ℕ) → byte_at k b ≡ Ok rest → byte_at k (b ++ more) ≡ Ok (rest ++ more)
byte_more k [] more rest e = cc
byte_more k (c ∷ cs) more rest e = tested (eqb c k) e
  where
    tested : (t : Bool) → cond {A = Result (List ℕ) Stop} t (Ok cs) (Err wrong) ≡ Ok rest → cond {A = Result (List ℕ) Stop} t (Ok (cs ++ more)) (Err wrong) ≡ Ok (rest ++ more)
    tested true f = let same : cs ≡ rest = cc in ap (λ (l : List ℕ). Ok (l ++ more)) same
    tested false f = cc

quote_wrong : (b more : List ℕ) → quote_at b ≡ Err wrong → quote_at (b ++ more) ≡ Err wrong
unfolding quote_at
quote_wrong [] more e = cc
quote_wrong (c ∷ cs) more e = tested (eqb c 34 || eqb c 39) e
  where
    tested : (t : Bool) → cond {A = Result (ℕ × List ℕ) Stop} t (Ok (c, cs)) (Err wrong) ≡ Err wrong → cond {A = Result (ℕ × List ℕ) Stop} t (Ok (c, cs ++ more)) (Err wrong) ≡ Err wrong
    tested true f = cc
    tested false f = refl

-- ---- references

one_in_front : (a b c d : List ℕ) → a ++ b ≡ c ++ d → ((y : List ℕ) × (a ≡ c ++ y)) ⊎ ((y : List ℕ) × (c ≡ a ++ y))
one_in_front [] b c d e = inr (c, refl)
one_in_front (x ∷ xs) b [] d e = inl (x ∷ xs, refl)
one_in_front (x ∷ xs) b (y ∷ ys) d e =
    let head : x ≡ y = cc in
    let tail : xs ++ b ≡ ys ++ d = cc in
    elim (one_in_front xs b ys d tail) [
      | inl w ↦ inl (w.0, rw (head, w.1) refl)
      | inr w ↦ inr (w.0, rw (head, w.1) refl)
    ]

in_front : (b word rest : List ℕ) → b ≡ word ++ rest → starts_with nat_eq b word ≡ true
in_front b word rest e = (starts_is Decides-eqb b word (starts_with nat_eq b word) refl).1 rest e

not_in_front : (b word rest : List ℕ) → b ≡ word ++ rest → starts_with nat_eq b word ≡ false → ⊥
not_in_front b word rest e f = true_false (sym (in_front b word rest e) ∙ f)
  where
    true_false : true ≡ false → ⊥
    true_false p = cc

word_wrong : (word b more : List ℕ) → word_at word b ≡ Err wrong → word_at word (b ++ more) ≡ Err wrong
unfolding word_at
word_wrong word b more e = tested (starts_with nat_eq b word) (starts_with nat_eq word b) refl refl e
  where
    far : starts_with nat_eq b word ≡ false → starts_with nat_eq word b ≡ false → starts_with nat_eq (b ++ more) word ≡ false
    far f g = by_test (starts_with nat_eq (b ++ more) word) refl
      where
        by_test : (t : Bool) → starts_with nat_eq (b ++ more) word ≡ t → starts_with nat_eq (b ++ more) word ≡ false
        by_test false h = h
        by_test true h = elim (one_in_front b more word (drop (length word) (b ++ more)) (starts_made (b ++ more) word h)) [
          | inl w ↦ absurd (not_in_front b word w.0 w.1 f)
          | inr w ↦ absurd (not_in_front word b w.0 w.1 g)
        ]

    near : starts_with nat_eq word b ≡ false → starts_with nat_eq word (b ++ more) ≡ false
    near g = by_test (starts_with nat_eq word (b ++ more)) refl
      where
        by_test : (t : Bool) → starts_with nat_eq word (b ++ more) ≡ t → starts_with nat_eq word (b ++ more) ≡ false
        by_test false h = h
        by_test true h = absurd (not_in_front word b (more ++ drop (length (b ++ more)) word) (starts_made word (b ++ more) h ∙ append_assoc b more (drop (length (b ++ more)) word)) g)

    tested : (s t : Bool) → starts_with nat_eq b word ≡ s → starts_with nat_eq word b ≡ t → cond {A = Result (List ℕ) Stop} s (Ok (drop (length word) b))
        (cond {A = Result (List ℕ) Stop} t (Err short) (Err wrong)) ≡ Err wrong
        → cond {A = Result (List ℕ) Stop} (starts_with nat_eq (b ++ more) word) (Ok (drop (length word) (b ++ more)))
        (cond {A = Result (List ℕ) Stop} (starts_with nat_eq word (b ++ more)) (Err short) (Err wrong)) ≡ Err wrong
    tested true t f g h = cc
    tested false true f g h = cc
    tested false false f g h =
        let one = far f g in
        let two = near g in
        rw (one, two) refl

entity_wrong : (word : List ℕ) (x : ℕ) (b more : List ℕ) → entity_at word x b ≡ Err wrong → entity_at word x (b ++ more) ≡ Err wrong
unfolding entity_at
entity_wrong word x b more e = by_part (wrong_part (word_at word b) (stands_for x) e)
  where
    by_part : ((word_at word b ≡ Err wrong) ⊎ ((r : List ℕ) × (word_at word b ≡ Ok r) × (stands_for x r ≡ Err wrong))) → (word_at word (b ++ more) >>= stands_for x) ≡ Err wrong
    by_part (inl f) = let g = word_wrong word b more f in rw g refl
    by_part (inr w) = let h = w.2 in cc

end_wrong : (digits more : List ℕ) (c : ℕ) (cs : List ℕ) → number_end digits (c ∷ cs) ≡ Err wrong → number_end digits (c ∷ cs ++ more) ≡ Err wrong
unfolding number_end
end_wrong [] more c cs e = refl
end_wrong (d ∷ ds) more c cs e = tested (eqb c 59 && is_scalar (decimal_from 0 (d ∷ ds))) e
  where
    tested : (t : Bool) → cond {A = Result (ℕ × List ℕ) Stop} t (Ok (decimal_from 0 (d ∷ ds), cs)) (Err wrong) ≡ Err wrong → cond {A = Result (ℕ × List ℕ) Stop} t
        (Ok (decimal_from 0 (d ∷ ds), cs ++ more)) (Err wrong) ≡ Err wrong
    tested true f = cc
    tested false f = refl

no_end : (digits : List ℕ) → number_end digits [] ≡ Err wrong → ⊥
unfolding number_end
no_end [] e = cc
no_end (d ∷ ds) e = cc

number_wrong : (b more : List ℕ) → number_at b ≡ Err wrong → number_at (b ++ more) ≡ Err wrong
unfolding number_at
number_wrong b more e = by_part (wrong_part (byte_at 35 b) (λ r. number_end (prefix is_digit r) (remaining is_digit r)) e)
  where
    by_left : (r l : List ℕ) → remaining is_digit r ≡ l → number_end (prefix is_digit r) l ≡ Err wrong → number_end (prefix is_digit (r ++ more)) (remaining is_digit (r ++ more)) ≡ Err wrong
    by_left r [] f g = absurd (no_end (prefix is_digit r) g)
    by_left r (c ∷ cs) f g =
        let w = class_more is_digit r more c cs f in
        rw (w.0, w.1) (end_wrong (prefix is_digit r) more c cs g)

    by_part : ((byte_at 35 b ≡ Err wrong) ⊎ ((r : List ℕ) × (byte_at 35 b ≡ Ok r) × (number_end (prefix is_digit r) (remaining is_digit r) ≡ Err wrong)))
        → (byte_at 35 (b ++ more) >>= λ r. number_end (prefix is_digit r) (remaining is_digit r)) ≡ Err wrong
    by_part (inl f) = let g = byte_wrong 35 b more f in rw g refl
    by_part (inr w) = let g = byte_more 35 b more w.0 w.1 in rw g (by_left w.0 (remaining is_digit w.0) refl w.2)

reference_wrong : (b more : List ℕ) → reference_at b ≡ Err wrong → reference_at (b ++ more) ≡ Err wrong
unfolding reference_at
reference_wrong b more e =
    let e5 = or_wrong _ _ e in
    let e4 = or_wrong _ _ e5.0 in
    let e3 = or_wrong _ _ e4.0 in
    let e2 = or_wrong _ _ e3.0 in
    let e1 = or_wrong _ _ e2.0 in
    let a = entity_wrong (codes "lt;") 60 b more e1.0 in
    let c = entity_wrong (codes "gt;") 62 b more e1.1 in
    let d = entity_wrong (codes "amp;") 38 b more e2.1 in
    let f = entity_wrong (codes "quot;") 34 b more e3.1 in
    let g = entity_wrong (codes "apos;") 39 b more e4.1 in
    let h = number_wrong b more e5.1 in
    rw (a, c, d, f, g, h) refl

reference_more : (b more rest : List ℕ) (x : ℕ) → reference_at b ≡ Ok (x, rest) → reference_at (b ++ more) ≡ Ok (x, rest ++ more)
reference_more b more rest x e =
    let m = reference_made b rest x e in
    let w = reference_read m.1 (rest ++ more) in
    let same : m.0 ≡ w.0 = let f = w.1 in cc in
    let whole : b ++ more ≡ w.0 ++ (rest ++ more) = ap (λ (l : List ℕ). l ++ more) m.2 ∙ (append_assoc m.0 rest more ∙ ap (λ (l : List ℕ). l ++ (rest ++ more)) same) in
    ap reference_at whole ∙ w.2

-- ---- values and attributes

piece_wrong : (q : ℕ) (b more : List ℕ) → piece_at q b ≡ Err wrong → piece_at q (b ++ more) ≡ Err wrong
unfolding piece_at
piece_wrong q [] more e = cc
piece_wrong q (c ∷ cs) more e = tested (eqb c q) (eqb c 60) (eqb c 38) e
  where
    replaced : (r : Result (ℕ × List ℕ) Stop) → reference_at cs ≡ r → (r >>= going) ≡ Err wrong → (reference_at (cs ++ more) >>= going) ≡ Err wrong
    replaced (Ok x) f g = cc
    replaced (Err s) f g =
        let same : s ≡ wrong = cc in
        let h = reference_wrong cs more (f ∙ ap (λ (t : Stop). Err t) same) in
        rw h refl

    tested : (s t u : Bool)
        → cond {A = Result (Bool × List ℕ × List ℕ) Stop} s (Ok (false, [], cs)) (cond {A = Result (Bool × List ℕ × List ℕ) Stop} t (Err wrong)
        (cond {A = Result (Bool × List ℕ × List ℕ) Stop} u (reference_at cs >>= going) (Ok (true, c ∷ [], cs)))) ≡ Err wrong
        → cond {A = Result (Bool × List ℕ × List ℕ) Stop} s (Ok (false, [], cs ++ more)) (cond {A = Result (Bool × List ℕ × List ℕ) Stop} t (Err wrong)
        (cond {A = Result (Bool × List ℕ × List ℕ) Stop} u (reference_at (cs ++ more) >>= going) (Ok (true, c ∷ [], cs ++ more)))) ≡ Err wrong
    tested true t u f = cc
    tested false true u f = refl
    tested false false true f = replaced (reference_at cs) refl f
    tested false false false f = cc

piece_more : (q : ℕ) (b more piece rest : List ℕ) → piece_at q b ≡ Ok (true, piece, rest) → piece_at q (b ++ more) ≡ Ok (true, piece, rest ++ more)
unfolding piece_at
piece_more q [] more piece rest e = cc
piece_more q (c ∷ cs) more piece rest e = tested (eqb c q) (eqb c 60) (eqb c 38) e
  where
    replaced : (r : Result (ℕ × List ℕ) Stop) → reference_at cs ≡ r → (r >>= going) ≡ Ok (true, piece, rest) → (reference_at (cs ++ more) >>= going) ≡ Ok (true, piece, rest ++ more)
    replaced (Err s) f g = cc
    replaced (Ok (x, left)) f g =
        let same = triples _ refl g in
        let h = reference_more cs more left x f in
        rw (h, same.1, same.2) refl

    tested : (s t u : Bool)
        → cond {A = Result (Bool × List ℕ × List ℕ) Stop} s (Ok (false, [], cs)) (cond {A = Result (Bool × List ℕ × List ℕ) Stop} t (Err wrong)
        (cond {A = Result (Bool × List ℕ × List ℕ) Stop} u (reference_at cs >>= going) (Ok (true, c ∷ [], cs)))) ≡ Ok (true, piece, rest)
        → cond {A = Result (Bool × List ℕ × List ℕ) Stop} s (Ok (false, [], cs ++ more)) (cond {A = Result (Bool × List ℕ × List ℕ) Stop} t (Err wrong)
        (cond {A = Result (Bool × List ℕ × List ℕ) Stop} u (reference_at (cs ++ more) >>= going) (Ok (true, c ∷ [], cs ++ more)))) ≡ Ok (true, piece, rest ++ more)
    tested true t u f = let none = (triples _ refl f).0 in cc
    tested false true u f = cc
    tested false false true f = replaced (reference_at cs) refl f
    tested false false false f = let same = triples _ refl f in rw (same.1, same.2) refl

values_wrong : (q : ℕ) {text b : List ℕ} {r : Result (List ℕ × List ℕ) Stop} → Values q text b r → r ≡ Err wrong → (more : List ℕ) → Values q text (b ++ more) (Err wrong)
values_wrong q {b = b} (refused {e = s} e) is more =
    let same : s ≡ wrong = cc in
    refused (piece_wrong q b more (e ∙ ap (λ (t : Stop). Err t) same))
values_wrong q (closed e) is more = absurd (no_fault is)
  where
    no_fault : {X : Type 0} {x : X} → Ok x ≡ Err wrong → ⊥
    no_fault p = cc
values_wrong q {b = b} (goes_on {piece = piece} {rest = rest} e h) is more = goes_on (piece_more q b more piece rest e) (values_wrong q h is more)

opening_more : (b more name rest : List ℕ) (q : ℕ) → opening_at b ≡ Ok (name, q, rest) → opening_at (b ++ more) ≡ Ok (name, q, rest ++ more)
opening_more b more name rest q e =
    let w = opening_made b name rest q e in
    let whole : b ++ more ≡ name ++ (w.0 ++ (61 ∷ w.1 ++ q ∷ (rest ++ more))) = ap (λ (l : List ℕ). l ++ more) w.6 ∙ regroup name w.0 w.1 q rest more in
    ap opening_at whole ∙ opening_read name w.0 w.1 q (rest ++ more) w.2 w.3 w.4 w.5
  where
    regroup : (n s t : List ℕ) (k : ℕ) (r m : List ℕ) → (n ++ (s ++ (61 ∷ t ++ k ∷ r))) ++ m ≡ n ++ (s ++ (61 ∷ t ++ k ∷ (r ++ m)))
    regroup n s t k r m = simp append_assoc

-- what is refused has some bytes
byte_some : (k : ℕ) (b : List ℕ) → byte_at k b ≡ Err wrong → b ≡ [] → ⊥
byte_some k [] e f = cc
byte_some k (c ∷ cs) e f = cc

quote_some : (b : List ℕ) → quote_at b ≡ Err wrong → b ≡ [] → ⊥
unfolding quote_at
quote_some [] e f = cc
quote_some (c ∷ cs) e f = cc

-- white space, and then what is refused
space_wrong : {X : Type 0} (part : List ℕ → Result X Stop) (b more : List ℕ) → ((l : List ℕ) → part l ≡ Err wrong → l ≡ [] → ⊥) → ((l m : List ℕ) → part l ≡ Err wrong → part (l ++ m) ≡ Err wrong)
    → part (remaining is_space b) ≡ Err wrong → part (remaining is_space (b ++ more)) ≡ Err wrong
space_wrong part b more some stays e = ap part (left_more is_space b more (some (remaining is_space b) e)) ∙ stays (remaining is_space b) more e

space_byte : (k : ℕ) (b more rest : List ℕ) → byte_at k (remaining is_space b) ≡ Ok rest → byte_at k (remaining is_space (b ++ more)) ≡ Ok (rest ++ more)
space_byte k b more rest e = ap (byte_at k) (left_more is_space b more some) ∙ byte_more k (remaining is_space b) more rest e
  where
    some : remaining is_space b ≡ [] → ⊥
    some f = let g = byte_made k (remaining is_space b) rest e in let h : [] ≡ k ∷ rest = sym f ∙ g in nothing h
      where
        nothing : [] ≡ k ∷ rest → ⊥
        nothing p = cc

-- a name, and then what is refused
name_then_more : (b more n rest : List ℕ) → name_at b ≡ Ok (n, rest) → (rest ≡ [] → ⊥) → name_at (b ++ more) ≡ Ok (n, rest ++ more)
name_then_more b more n [] e some = absurd (some refl)
name_then_more b more n (c ∷ cs) e some = name_more b more n c cs e

left_some : (p : ℕ → Bool) (b : List ℕ) → (remaining p b ≡ [] → ⊥) → b ≡ [] → ⊥
left_some p [] some e = some refl
left_some p (c ∷ cs) some e = cc

behind_some : (k : ℕ) (b rest : List ℕ) → byte_at k b ≡ Ok rest → b ≡ [] → ⊥
behind_some k [] rest e f = cc
behind_some k (c ∷ cs) rest e f = cc

opening_wrong : (b more : List ℕ) → opening_at b ≡ Err wrong → opening_at (b ++ more) ≡ Err wrong
unfolding opening_at
opening_wrong b more e = by_name (wrong_part (name_at b) _ e)
  where
    by_quote : (n : List ℕ × List ℕ) (eq : List ℕ)
        → ((quote_at (remaining is_space eq) ≡ Err wrong) ⊎ ((q : ℕ × List ℕ) × (quote_at (remaining is_space eq) ≡ Ok q) × (quoted n.0 q ≡ Err wrong)))
        → (quote_at (remaining is_space (eq ++ more)) >>= quoted n.0) ≡ Err wrong
    by_quote n eq (inl f) = let g = space_wrong quote_at eq more quote_some quote_wrong f in rw g refl
    by_quote n eq (inr w) = let h = w.2 in cc

    by_byte : (n : List ℕ × List ℕ) → name_at b ≡ Ok n → ((byte_at 61 (remaining is_space n.1) ≡ Err wrong) ⊎
        ((eq : List ℕ) × (byte_at 61 (remaining is_space n.1) ≡ Ok eq) × ((quote_at (remaining is_space eq) >>= quoted n.0) ≡ Err wrong)))
        → opening_at (b ++ more) ≡ Err wrong
    by_byte n is (inl f) =
        let name = name_then_more b more n.0 n.1 is (left_some is_space n.1 (byte_some 61 (remaining is_space n.1) f)) in
        let byte = space_wrong (byte_at 61) n.1 more (byte_some 61) (byte_wrong 61) f in
        rw (name, byte) refl
    by_byte n is (inr w) =
        let name = name_then_more b more n.0 n.1 is (left_some is_space n.1 (behind_some 61 (remaining is_space n.1) w.0 w.1)) in
        let byte = space_byte 61 n.1 more w.0 w.1 in
        rw (name, byte) (by_quote n w.0 (wrong_part (quote_at (remaining is_space w.0)) _ w.2))

    by_name : ((name_at b ≡ Err wrong) ⊎ ((n : List ℕ × List ℕ) × (name_at b ≡ Ok n) × ((byte_at 61 (remaining is_space n.1) >>= λ eq. (quote_at (remaining is_space eq) >>= quoted n.0)) ≡ Err
        wrong))) → opening_at (b ++ more) ≡ Err wrong
    by_name (inl f) = let g = name_wrong b more f in rw g refl
    by_name (inr w) = by_byte w.0 w.1 (wrong_part (byte_at 61 (remaining is_space w.0.1)) _ w.2)

naming_wrong : (name : List ℕ) (r : Result (List ℕ × List ℕ) Stop) → naming name r ≡ Err wrong → r ≡ Err wrong
naming_wrong name (Ok x) e = cc
naming_wrong name (Err s) e = let same : s ≡ wrong = cc in ap (λ (t : Stop). Err t) same

attribute_wrong : {b : List ℕ} {r : Result (Attribute × List ℕ) Stop} → AttributeAt b r → r ≡ Err wrong → (more : List ℕ) → AttributeAt (b ++ more) (Err wrong)
attribute_wrong {b = b} (unopened {e = s} e) is more =
    let same : s ≡ wrong = cc in
    unopened (opening_wrong b more (e ∙ ap (λ (t : Stop). Err t) same))
attribute_wrong {b = b} (opened {name = name} {rest = rest} {q = q} {r = r} o v) is more = opened (opening_more b more name rest q o) (values_wrong q v (naming_wrong name r is) more)

attribute_more : (b more rest : List ℕ) (a : Attribute) → AttributeAt b (Ok (a, rest)) → AttributeAt (b ++ more) (Ok (a, rest ++ more))
attribute_more b more rest a at =
    let m = attribute_made at in
    let whole : b ++ more ≡ m.0 ++ (rest ++ more) = ap (λ (l : List ℕ). l ++ more) m.2 ∙ append_assoc m.0 rest more in
    subst (λ (l : List ℕ). AttributeAt l (Ok (a, rest ++ more))) (sym whole) (attribute_read m.0 a (rest ++ more) m.1)

-- ---- what stands behind a name

same_test : (x y more : List ℕ) → ltb (length (x ++ more)) (length (y ++ more)) ≡ ltb (length x) (length y)
same_test x y more = tested (ltb (length x) (length y)) refl
  where
    tested : (t : Bool) → ltb (length x) (length y) ≡ t → ltb (length (x ++ more)) (length (y ++ more)) ≡ t
    tested true e =
        let lt : length x < length y = ltb-true (length x) (length y) e in
        lt-ltb (length (x ++ more)) (length (y ++ more)) (omega (arith, lt, length-append x more, length-append y more))
    tested false e =
        let le : length y ≤ length x = ltb-false (length x) (length y) e in
        le-ltb (length (x ++ more)) (length (y ++ more)) (omega (arith, le, length-append x more, length-append y more))

behind_wrong : (spaced : Bool) (l more : List ℕ) → mark_behind spaced l ≡ Err wrong → mark_behind spaced (l ++ more) ≡ Err wrong
behind_wrong spaced [] more e = cc
behind_wrong spaced (c ∷ cs) more e = tested (eqb c 62) (eqb c 47) spaced e
  where
    slash : (r : Result (List ℕ) Stop) → byte_at 62 cs ≡ r → (r >>= slashed) ≡ Err wrong → (byte_at 62 (cs ++ more) >>= slashed) ≡ Err wrong
    slash (Ok x) f g = cc
    slash (Err s) f g =
        let same : s ≡ wrong = cc in
        let h = byte_wrong 62 cs more (f ∙ ap (λ (t : Stop). Err t) same) in
        rw h refl

    tested : (s t u : Bool)
        → cond {A = Result (Option Bool × List ℕ) Stop} s (Ok (Some false, cs)) (cond {A = Result (Option Bool × List ℕ) Stop} t (byte_at 62 cs >>= slashed)
        (cond {A = Result (Option Bool × List ℕ) Stop} u (Ok (None, c ∷ cs)) (Err wrong))) ≡ Err wrong
        → cond {A = Result (Option Bool × List ℕ) Stop} s (Ok (Some false, cs ++ more)) (cond {A = Result (Option Bool × List ℕ) Stop} t (byte_at 62 (cs ++ more) >>= slashed)
        (cond {A = Result (Option Bool × List ℕ) Stop} u (Ok (None, c ∷ cs ++ more)) (Err wrong))) ≡ Err wrong
    tested true t u f = cc
    tested false true u f = slash (byte_at 62 cs) refl f
    tested false false true f = cc
    tested false false false f = refl

behind_more : (spaced : Bool) (l more rest : List ℕ) → mark_behind spaced l ≡ Ok (None, rest) → mark_behind spaced (l ++ more) ≡ Ok (None, rest ++ more)
behind_more spaced [] more rest e = cc
behind_more spaced (c ∷ cs) more rest e = tested (eqb c 62) (eqb c 47) spaced e
  where
    slash : (r : Result (List ℕ) Stop) → (r >>= slashed) ≡ Ok (None, rest) → ⊥
    slash (Ok x) g = let none = (pairs _ refl g).0 in cc
    slash (Err s) g = cc

    tested : (s t u : Bool)
        → cond {A = Result (Option Bool × List ℕ) Stop} s (Ok (Some false, cs)) (cond {A = Result (Option Bool × List ℕ) Stop} t (byte_at 62 cs >>= slashed)
        (cond {A = Result (Option Bool × List ℕ) Stop} u (Ok (None, c ∷ cs)) (Err wrong))) ≡ Ok (None, rest)
        → cond {A = Result (Option Bool × List ℕ) Stop} s (Ok (Some false, cs ++ more)) (cond {A = Result (Option Bool × List ℕ) Stop} t (byte_at 62 (cs ++ more) >>= slashed)
        (cond {A = Result (Option Bool × List ℕ) Stop} u (Ok (None, c ∷ cs ++ more)) (Err wrong))) ≡ Ok (None, rest ++ more)
    tested true t u f = let none = (pairs _ refl f).0 in cc
    tested false true u f = absurd (slash (byte_at 62 cs) f)
    tested false false true f = let same = (pairs _ refl f).1 in ap (λ (l : List ℕ). at_name (l ++ more)) same
    tested false false false f = cc

behind_none : (spaced : Bool) (l : List ℕ) → l ≡ [] → mark_behind spaced l ≡ Err short
behind_none spaced l e = rw e refl

mark_wrong : (b more : List ℕ) → mark_at b ≡ Err wrong → mark_at (b ++ more) ≡ Err wrong
unfolding mark_at
mark_wrong b more e =
    let left : remaining is_space (b ++ more) ≡ remaining is_space b ++ more = left_more is_space b more (λ f. no_short (Option Bool × List ℕ) _ (behind_none _ _ f) e) in
    let test : ltb (length (remaining is_space b ++ more)) (length (b ++ more)) ≡ ltb (length (remaining is_space b)) (length b) = same_test (remaining is_space b) b more in
    rw (left, test) (behind_wrong (ltb (length (remaining is_space b)) (length b)) (remaining is_space b) more e)

mark_more : (b more rest : List ℕ) → mark_at b ≡ Ok (None, rest) → mark_at (b ++ more) ≡ Ok (None, rest ++ more)
unfolding mark_at
mark_more b more rest e =
    let left : remaining is_space (b ++ more) ≡ remaining is_space b ++ more = left_more is_space b more (λ f. no_success (Option Bool × List ℕ) _ (None, rest) short (behind_none _ _ f) e) in
    let test : ltb (length (remaining is_space b ++ more)) (length (b ++ more)) ≡ ltb (length (remaining is_space b)) (length b) = same_test (remaining is_space b) b more in
    rw (left, test) (behind_more (ltb (length (remaining is_space b)) (length b)) (remaining is_space b) more rest e)

tails_wrong : {seen : List Attribute} {b : List ℕ} {r : Result (List Attribute × Bool × List ℕ) Stop} → Tails seen b r → r ≡ Err wrong → (more : List ℕ) → Tails seen (b ++ more) (Err wrong)
tails_wrong {b = b} (unmarked {e = s} e) is more =
    let same : s ≡ wrong = cc in
    unmarked (mark_wrong b more (e ∙ ap (λ (t : Stop). Err t) same))
tails_wrong (ended e) is more = absurd (no_fault is)
  where
    no_fault : {X : Type 0} {x : X} → Ok x ≡ Err wrong → ⊥
    no_fault p = cc
tails_wrong {b = b} (broken {rest = rest} {e = s} m at) is more =
    let same : s ≡ wrong = cc in
    broken (mark_more b more rest m) (attribute_wrong at (ap (λ (t : Stop). Err t) same) more)
tails_wrong {b = b} (twice {rest = rest} {more = left} {a = a} m at t) is more = twice (mark_more b more rest m) (attribute_more rest more left a at) t
tails_wrong {b = b} (another {rest = rest} {more = left} {a = a} m at n h) is more = another (mark_more b more rest m) (attribute_more rest more left a at) n (tails_wrong h is more)

-- ---- what begins with `<`

mark_none : mark_at [] ≡ Err short
unfolding mark_at
mark_none = refl

found_nothing : {x : Option Bool × List ℕ} → mark_at [] ≡ Ok x → ⊥
found_nothing e = different (sym mark_none ∙ e)
  where
    different : {x : Option Bool × List ℕ} → Err short ≡ Ok x → ⊥
    different p = cc

tails_none : {seen : List Attribute} {b : List ℕ} {r : Result (List Attribute × Bool × List ℕ) Stop} → Tails seen b r → b ≡ [] → r ≡ Err wrong → ⊥
tails_none (unmarked {e = s} e) f is =
    let none : mark_at [] ≡ Err s = subst (λ (l : List ℕ). mark_at l ≡ Err s) f e in
    let one : short ≡ s = cc mark_none in
    let two : s ≡ wrong = cc in
    apart (one ∙ two)
  where
    apart : short ≡ wrong → ⊥
    apart p = cc
tails_none (ended {rest = rest} {empty = empty} e) f is = found_nothing (subst (λ (l : List ℕ). mark_at l ≡ Ok (Some empty, rest)) f e)
tails_none (broken {rest = rest} m at) f is = found_nothing (subst (λ (l : List ℕ). mark_at l ≡ Ok (None, rest)) f m)
tails_none (twice {rest = rest} m at t) f is = found_nothing (subst (λ (l : List ℕ). mark_at l ≡ Ok (None, rest)) f m)
tails_none (another {rest = rest} m at n h) f is = found_nothing (subst (λ (l : List ℕ). mark_at l ≡ Ok (None, rest)) f m)

starts_wrong : {b : List ℕ} {r : Result (Markup × List ℕ) Stop} → Starts b r → r ≡ Err wrong → (more : List ℕ) → Starts (b ++ more) (Err wrong)
starts_wrong {b = b} (unnamed {e = s} e) is more =
    let same : s ≡ wrong = cc in
    unnamed (name_wrong b more (e ∙ ap (λ (t : Stop). Err t) same))
starts_wrong {b = b} (named {name = name} {rest = rest} {r = r} n h) is more =
    let fault = starting_wrong name r is in
    named (name_then_more b more name rest n (λ e. tails_none h e fault)) (tails_wrong h fault more)
  where
    starting_wrong : (name : List ℕ) (r : Result (List Attribute × Bool × List ℕ) Stop) → starting name r ≡ Err wrong → r ≡ Err wrong
    starting_wrong name (Ok x) e = cc
    starting_wrong name (Err s) e = let same : s ≡ wrong = cc in ap (λ (t : Stop). Err t) same

finish_wrong : (b more : List ℕ) → finish_at b ≡ Err wrong → finish_at (b ++ more) ≡ Err wrong
unfolding finish_at
finish_wrong b more e = by_name (wrong_part (name_at b) _ e)
  where
    by_byte : (n : List ℕ × List ℕ) → name_at b ≡ Ok n → ((byte_at 62 (remaining is_space n.1) ≡ Err wrong) ⊎
        ((r : List ℕ) × (byte_at 62 (remaining is_space n.1) ≡ Ok r) × (finishing n.0 r ≡ Err wrong))) → finish_at (b ++ more) ≡ Err wrong
    by_byte n is (inl f) =
        let name = name_then_more b more n.0 n.1 is (left_some is_space n.1 (byte_some 62 (remaining is_space n.1) f)) in
        let byte = space_wrong (byte_at 62) n.1 more (byte_some 62) (byte_wrong 62) f in
        rw (name, byte) refl
    by_byte n is (inr w) = let h = w.2 in cc

    by_name : ((name_at b ≡ Err wrong) ⊎ ((n : List ℕ × List ℕ) × (name_at b ≡ Ok n) × ((byte_at 62 (remaining is_space n.1) >>= finishing n.0) ≡ Err wrong))) → finish_at (b ++ more) ≡ Err wrong
    by_name (inl f) = let g = name_wrong b more f in rw g refl
    by_name (inr w) = by_byte w.0 w.1 (wrong_part (byte_at 62 (remaining is_space w.0.1)) _ w.2)

past_right : (word b : List ℕ) → past_word word b ≡ Err wrong → ⊥
unfolding past_word
past_right word [] e = cc
past_right word (c ∷ cs) e = tested (starts_with nat_eq (c ∷ cs) word) e (past_right word cs)
  where
    tested : (t : Bool) → cond {A = Result (List ℕ) Stop} t (Ok (drop (length word) (c ∷ cs))) (past_word word cs) ≡ Err wrong → (past_word word cs ≡ Err wrong → ⊥) → ⊥
    tested true f g = cc
    tested false f g = g f

skipped_right : (r : Result (List ℕ) Stop) → (r ≡ Err wrong → ⊥) → (r >>= skips) ≡ Err wrong → ⊥
skipped_right (Ok x) right e = cc
skipped_right (Err s) right e = let same : s ≡ wrong = cc in right (ap (λ (t : Stop). Err t) same)

comment_wrong : (b more : List ℕ) → comment_at b ≡ Err wrong → comment_at (b ++ more) ≡ Err wrong
unfolding comment_at
comment_wrong b more e = by_part (wrong_part (word_at (codes "--") b) _ e)
  where
    by_part : ((word_at (codes "--") b ≡ Err wrong) ⊎ ((r : List ℕ) × (word_at (codes "--") b ≡ Ok r) × ((past_word (codes "-->") r >>= skips) ≡ Err wrong))) → comment_at (b ++ more) ≡ Err wrong
    by_part (inl f) = let g = word_wrong (codes "--") b more f in rw g refl
    by_part (inr w) = absurd (skipped_right (past_word (codes "-->") w.0) (past_right (codes "-->") w.0) w.2)

instruction_right : (b : List ℕ) → instruction_at b ≡ Err wrong → ⊥
unfolding instruction_at
instruction_right b e = skipped_right (past_word (codes "?>") b) (past_right (codes "?>") b) e

matched : (t : Bool) (P Q : Type 0) → ((t ≡ true) × P) ⊎ ((t ≡ false) × Q) → MatchBool t P Q
matched t P Q (inl (e, h)) = rw e h
matched t P Q (inr (e, h)) = rw e h

pub markups_wrong : (b more : List ℕ) → Markups b (Err wrong) → Markups (b ++ more) (Err wrong)
markups_wrong [] more h = absurd (no_short (Markup × List ℕ) (Err wrong) h refl)
markups_wrong (c ∷ cs) more h =
    matched (eqb c 63) _ _ (elim (chosen (eqb c 63) _ _ h) [
      | inl k ↦ absurd (instruction_right cs (sym k.1))
      | inr k ↦ inr (
        k.0,
        matched (eqb c 33) _ _ (elim (chosen (eqb c 33) _ _ k.1) [
          | inl l ↦ inl (l.0, sym (comment_wrong cs more (sym l.1)))
          | inr l ↦ inr (
            l.0,
            matched (eqb c 47) _ _ (elim (chosen (eqb c 47) _ _ l.1) [
              | inl m ↦ inl (m.0, sym (finish_wrong cs more (sym m.1)))
              | inr m ↦ inr (m.0, starts_wrong m.1 refl more)
            ]),
          )
        ]),
      )
    ])
