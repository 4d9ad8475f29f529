-- What is read as a tag is made as the grammar says.
use Rattle.std.proofs.Common.{◌≡◌, ◌≢◌, ◌⊎◌, inl, inr, ◌<◌, ℕ, Bool, true, false, ◌&&◌, ◌||◌, cond, eqb, ltb, List, [], ◌∷◌, ◌++◌, length, drop, Option, Some, None, Result, Ok, Err, refl, ap, sym, ◌∙◌, subst, append_assoc, arith}
use Rattle.std.specs.Prelude.{codes, encode_utf8, nat_eq, MatchBool}
use Rattle.std.specs.List.{list_all, starts_with}
use Rattle.std.proofs.lemmas.Bool.{eqb-true, ltb-true}
use Rattle.std.proofs.lemmas.Bool.Decides.{Decides-eqb, eqb_tells}
use Rattle.std.proofs.lemmas.Slice.Eq.{starts_is}
use Rattle.sm_model.specs.declared.tag.Attribute.{Attribute}
use Rattle.sm_tag.specs.declared.grammar.Markup.{Markup}
use Rattle.sm_tag.specs.declared.grammar.Markup.TheVariants.{Skipped, Finish, Start}
use Rattle.sm_model.specs.Digits.{is_digit, decimal_from}
use Rattle.sm_tag.specs.TagBytes.{is_tag_start, is_tag_byte, is_space, prefix, remaining}
use Rattle.sm_tag.specs.TagParts.{Stop, short, wrong, ◌>>=◌, name_at, byte_at, quote_at, word_at, entity_at, or_else, is_scalar, number_end, number_at, reference_at, piece_at, Values, refused, closed, goes_on, has_name}
use Rattle.sm_tag.specs.TagParts.{opening_at, naming, AttributeAt, unopened, opened, mark_behind, mark_at, Tails, unmarked, ended, broken, twice, another}
use Rattle.sm_tag.specs.TagMarkup.{past_word, finish_at, comment_at, instruction_at, starting, Starts, unnamed, named, Markups}
use Rattle.sm_tag.specs.TagText.{IsTagName, closing}
use Rattle.sm_tag.proofs.TagLengths.{parted}
use Rattle.sm_tag.proofs.Unique.{pairs, triples}
use Rattle.sm_tag.proofs.WrittenTags.{append_nil, append_push}
use Rattle.sm_tag.specs.Grammar as grammar
use Rattle.sm_tag.specs.Grammar.{IsSpace, Reference, Value, IsAttribute, Attributes, AreNew, IsStart, IsFinish, UpTo, IsSkipped}

-- what a part was read from, and what is behind it
abbrev pub Made : {X : Type 0} → (List ℕ → X → Type 0) → List ℕ → Result (X × List ℕ) Stop → Type 0
Made P bytes (Ok (x, rest)) = (text : List ℕ) × P text x × (bytes ≡ text ++ rest)
Made P bytes (Err e) = Unit {0}

-- one part and then the next
bound : {A B : Type 0} (r : Result A Stop) (f : A → Result B Stop) (y : B) → (r >>= f) ≡ Ok y → (x : A) × (r ≡ Ok x) × (f x ≡ Ok y)
bound (Ok x) f y e = (x, refl, e)
bound (Err s) f y e = cc

either : {A : Type 0} (r s : Result A Stop) (y : A) → or_else r s ≡ Ok y → (r ≡ Ok y) ⊎ (s ≡ Ok y)
either (Ok x) s y e = inl e
either (Err short) s y e = cc
either (Err wrong) s y e = inr e

-- ---- bytes of a class

pub split_is : (p : ℕ → Bool) (b : List ℕ) → b ≡ prefix p b ++ remaining p b
split_is p [] = refl
split_is p (c ∷ cs) = tested (p c) (split_is p cs)
  where
    tested : (t : Bool) → cs ≡ prefix p cs ++ remaining p cs → c ∷ cs ≡ cond t (c ∷ prefix p cs) [] ++ cond t (remaining p cs) (c ∷ cs)
    tested true h = ap (λ (l : List ℕ). c ∷ l) h
    tested false h = refl

pub prefix_all : (p : ℕ → Bool) (b : List ℕ) → list_all p (prefix p b) ≡ true
prefix_all p [] = refl
prefix_all p (c ∷ cs) = tested (p c) refl (prefix_all p cs)
  where
    tested : (t : Bool) → p c ≡ t → list_all p (prefix p cs) ≡ true → list_all p (cond t (c ∷ prefix p cs) []) ≡ true
    tested true e h = rw (e, h) refl
    tested false e h = refl

start_is_byte : (c : ℕ) → is_tag_start c ≡ true → is_tag_byte c ≡ true
start_is_byte c e = rw e refl

appended : {a b x y : List ℕ} → a ≡ x → b ≡ y → a ++ b ≡ x ++ y
appended p q = rw (p, q) refl

name_made : (b name rest : List ℕ) → name_at b ≡ Ok (name, rest) → IsTagName name × (b ≡ name ++ rest)
unfolding name_at
name_made [] name rest e = cc
name_made (c ∷ cs) name rest e = tested (is_tag_start c) refl e
  where
    tested : (t : Bool) → is_tag_start c ≡ t → cond {A = Result (List ℕ × List ℕ) Stop} t (Ok (prefix is_tag_byte (c ∷ cs), remaining is_tag_byte (c ∷ cs))) (Err wrong) ≡ Ok (name, rest) → IsTagName
        name × (c ∷ cs ≡ name ++ rest)
    tested false s f = cc
    tested true s f =
        let one = start_is_byte c s in
        let same = pairs _ refl f in
        let front : prefix is_tag_byte (c ∷ cs) ≡ c ∷ prefix is_tag_byte cs = rw one refl in
        let all : list_all is_tag_byte (c ∷ prefix is_tag_byte cs) ≡ true = rw (one, prefix_all is_tag_byte cs) refl in
        let is : IsTagName (c ∷ prefix is_tag_byte cs) = (s, all) in
        (subst IsTagName (sym front ∙ same.0) is, split_is is_tag_byte (c ∷ cs) ∙ appended same.0 same.1)

pub byte_made : (k : ℕ) (b rest : List ℕ) → byte_at k b ≡ Ok rest → b ≡ k ∷ rest
byte_made k [] rest e = cc
byte_made k (c ∷ cs) rest e = tested (eqb c k) refl e
  where
    tested : (t : Bool) → eqb c k ≡ t → cond t (Ok cs) (Err wrong) ≡ Ok rest → c ∷ cs ≡ k ∷ rest
    tested false s f = cc
    tested true s f = let same = eqb-true c k s in cc

quote_made : (b rest : List ℕ) (q : ℕ) → quote_at b ≡ Ok (q, rest) → ((q ≡ 34) ⊎ (q ≡ 39)) × (b ≡ q ∷ rest)
unfolding quote_at
quote_made [] rest q e = cc
quote_made (c ∷ cs) rest q e = tested (eqb c 34) (eqb c 39) refl refl e
  where
    tested : (s t : Bool) → eqb c 34 ≡ s → eqb c 39 ≡ t → cond {A = Result (ℕ × List ℕ) Stop} (s || t) (Ok (c, cs)) (Err wrong) ≡ Ok (q, rest) → ((q ≡ 34) ⊎ (q ≡ 39)) × (c ∷ cs ≡ q ∷ rest)
    tested true t f g h = let is = eqb-true c 34 f in let same = pairs _ refl h in (inl (sym same.0 ∙ is), cc)
    tested false true f g h = let is = eqb-true c 39 g in let same = pairs _ refl h in (inr (sym same.0 ∙ is), cc)
    tested false false f g h = cc

-- ---- references

pub starts_made : (b word : List ℕ) → starts_with nat_eq b word ≡ true → b ≡ word ++ drop (length word) b
starts_made b word e = (starts_is Decides-eqb b word (starts_with nat_eq b word) refl).0 e

pub word_made : (word b rest : List ℕ) → word_at word b ≡ Ok rest → b ≡ word ++ rest
unfolding word_at
word_made word b rest e = tested (starts_with nat_eq b word) (starts_with nat_eq word b) refl e
  where
    tested : (s t : Bool) → starts_with nat_eq b word ≡ s → cond s (Ok (drop (length word) b)) (cond t (Err short) (Err wrong)) ≡ Ok rest → b ≡ word ++ rest
    tested true t f g = let same : drop (length word) b ≡ rest = cc in starts_made b word f ∙ ap (λ (l : List ℕ). word ++ l) same
    tested false true f g = cc
    tested false false f g = cc

entity_made : (word : List ℕ) (k : ℕ) (b rest : List ℕ) (x : ℕ) → entity_at word k b ≡ Ok (x, rest) → (k ≡ x) × (b ≡ word ++ rest)
unfolding entity_at
entity_made word k b rest x e =
    let w = bound (word_at word b) (λ r. Ok (k, r)) (x, rest) e in
    let same = pairs _ refl w.2 in
    (same.0, word_made word b rest (w.1 ∙ ap (λ (r : List ℕ). Ok r) same.1))

-- digits and what is behind them
record IsEnd (digits more : List ℕ) (x : ℕ) (rest : List ℕ) : Type 0 where
  d : ℕ
  ds : List ℕ
  digits_are : digits ≡ d ∷ ds
  more_is : more ≡ 59 ∷ rest
  number_is : decimal_from 0 (d ∷ ds) ≡ x
  scalar : is_scalar (decimal_from 0 (d ∷ ds)) ≡ true

end_made : (digits more : List ℕ) (x : ℕ) (rest : List ℕ) → number_end digits more ≡ Ok (x, rest) → IsEnd digits more x rest
unfolding number_end
end_made [] [] x rest e = cc
end_made (d ∷ ds) [] x rest e = cc
end_made [] (c ∷ cs) x rest e = cc
end_made (d ∷ ds) (c ∷ cs) x rest e = tested (eqb c 59) (is_scalar (decimal_from 0 (d ∷ ds))) refl refl e
  where
    tested : (s t : Bool) → eqb c 59 ≡ s → is_scalar (decimal_from 0 (d ∷ ds)) ≡ t → cond {A = Result (ℕ × List ℕ) Stop} (s && t) (Ok (decimal_from 0 (d ∷ ds), cs)) (Err wrong) ≡ Ok (x, rest) →
        IsEnd (d ∷ ds) (c ∷ cs) x rest
    tested true true f g h =
        let is = eqb-true c 59 f in
        let same = pairs _ refl h in
        record { d = d; ds = ds; digits_are = refl; more_is = rw (is, same.1) refl; number_is = same.0; scalar = g }
    tested true false f g h = cc
    tested false t f g h = cc

number_made : (b rest : List ℕ) (x : ℕ) → number_at b ≡ Ok (x, rest) → (text : List ℕ) × Reference (38 ∷ text) x × (b ≡ text ++ rest)
unfolding number_at
number_made b rest x e =
    let w = bound (byte_at 35 b) (λ r. number_end (prefix is_digit r) (remaining is_digit r)) (x, rest) e in
    let after = w.0 in
    let mark = byte_made 35 b after w.1 in
    let is = end_made (prefix is_digit after) (remaining is_digit after) x rest w.2 in
    let all : list_all is_digit (is.d ∷ is.ds) ≡ true = subst (λ (l : List ℕ). list_all is_digit l ≡ true) is.digits_are (prefix_all is_digit after) in
    let whole : after ≡ (is.d ∷ is.ds) ++ 59 ∷ rest = split_is is_digit after ∙ appended is.digits_are is.more_is in
    let made : Reference (codes "&#" ++ (is.d ∷ is.ds ++ codes ";")) x = subst (λ (n : ℕ). Reference (codes "&#" ++ (is.d ∷ is.ds ++ codes ";")) n) is.number_is
    (grammar.number is.d is.ds all is.scalar) in
    (35 ∷ is.d ∷ is.ds ++ codes ";", made, mark ∙ ap (λ (l : List ℕ). 35 ∷ l) (whole ∙ ap (λ (l : List ℕ). is.d ∷ l) (sym (append_assoc is.ds (59 ∷ []) rest))))

abbrev pub IsMadeReference : List ℕ → List ℕ → ℕ → Type 0
IsMadeReference b rest x = (text : List ℕ) × Reference (38 ∷ text) x × (b ≡ text ++ rest)

entity_reference : (word : List ℕ) (k : ℕ) (b rest : List ℕ) (x : ℕ) → Reference (38 ∷ word) k → entity_at word k b ≡ Ok (x, rest) → IsMadeReference b rest x
entity_reference word k b rest x is e =
    let m = entity_made word k b rest x e in
    (word, subst (λ (n : ℕ). Reference (38 ∷ word) n) m.0 is, m.1)

pub reference_made : (b rest : List ℕ) (x : ℕ) → reference_at b ≡ Ok (x, rest) → IsMadeReference b rest x
unfolding reference_at
reference_made b rest x e =
    elim (either _ _ _ e) [
      | inl e5 ↦ elim (either _ _ _ e5) [
        | inl e4 ↦ elim (either _ _ _ e4) [
          | inl e3 ↦ elim (either _ _ _ e3) [
            | inl e2 ↦ elim (either _ _ _ e2) [
              | inl e1 ↦ entity_reference (codes "lt;") 60 b rest x grammar.less e1
              | inr e1 ↦ entity_reference (codes "gt;") 62 b rest x grammar.greater e1
            ]
            | inr e2 ↦ entity_reference (codes "amp;") 38 b rest x grammar.ampersand e2
          ]
          | inr e3 ↦ entity_reference (codes "quot;") 34 b rest x grammar.quote e3
        ]
        | inr e4 ↦ entity_reference (codes "apos;") 39 b rest x grammar.apostrophe e4
      ]
      | inr e5 ↦ number_made b rest x e5
    ]

-- ---- values

-- a piece that goes on, or the quote at the end
abbrev PieceMade : ℕ → List ℕ → Result (Bool × List ℕ × List ℕ) Stop → Type 0
PieceMade q b (Ok (false, piece, rest)) = (piece ≡ []) × (b ≡ q ∷ rest)
PieceMade q b (Ok (true, piece, rest)) =
    (text : List ℕ) × ((inner value : List ℕ) → Value q inner value → Value q (text ++ inner) (piece ++ value)) × (b ≡ text ++ rest)
PieceMade q b (Err e) = Unit {0}

reference_piece : (q : ℕ) (cs : List ℕ) (r : Result (ℕ × List ℕ) Stop) → reference_at cs ≡ r → PieceMade q (38 ∷ cs) (r >>= λ x. Ok (true, encode_utf8 x.0, x.1))
reference_piece q cs (Err e) is = tt
reference_piece q cs (Ok (x, rest)) is =
    let m = reference_made cs rest x is in
    (38 ∷ m.0, λ inner value v. grammar.reference m.1 v, ap (λ (l : List ℕ). 38 ∷ l) m.2)

piece_made : (q : ℕ) (b : List ℕ) → PieceMade q b (piece_at q b)
unfolding piece_at
piece_made q [] = tt
piece_made q (c ∷ cs) = at_quote (eqb_tells c q)
  where
    at_ampersand : c ≢ q → c ≢ 60 → ((eqb c 38 ≡ true) × (c ≡ 38)) ⊎ ((eqb c 38 ≡ false) × (c ≢ 38))
        → PieceMade q (c ∷ cs) (cond {A = Result (Bool × List ℕ × List ℕ) Stop} (eqb c 38) (reference_at cs >>= λ x. Ok (true, encode_utf8 x.0, x.1)) (Ok (true, c ∷ [], cs)))
    at_ampersand nq na (inl (e, is)) =
        let P : ℕ → Type 0 = λ k. PieceMade q (k ∷ cs) (reference_at cs >>= λ x. Ok (true, encode_utf8 x.0, x.1)) in
        rw e (subst P (sym is) (reference_piece q cs (reference_at cs) refl))
    at_ampersand nq na (inr (e, nm)) = rw e (c ∷ [], λ inner value v. grammar.byte nq na nm v, refl)

    at_angle : c ≢ q → ((eqb c 60 ≡ true) × (c ≡ 60)) ⊎ ((eqb c 60 ≡ false) × (c ≢ 60))
        → PieceMade q (c ∷ cs) (cond {A = Result (Bool × List ℕ × List ℕ) Stop} (eqb c 60) (Err wrong)
        (cond {A = Result (Bool × List ℕ × List ℕ) Stop} (eqb c 38) (reference_at cs >>= λ x. Ok (true, encode_utf8 x.0, x.1)) (Ok (true, c ∷ [], cs))))
    at_angle nq (inl (e, is)) = rw e tt
    at_angle nq (inr (e, na)) = rw e (at_ampersand nq na (eqb_tells c 38))

    at_quote : ((eqb c q ≡ true) × (c ≡ q)) ⊎ ((eqb c q ≡ false) × (c ≢ q))
        → PieceMade q (c ∷ cs) (cond {A = Result (Bool × List ℕ × List ℕ) Stop} (eqb c q) (Ok (false, [], cs))
        (cond {A = Result (Bool × List ℕ × List ℕ) Stop} (eqb c 60) (Err wrong) (cond {A = Result (Bool × List ℕ × List ℕ) Stop} (eqb c 38)
        (reference_at cs >>= λ x. Ok (true, encode_utf8 x.0, x.1)) (Ok (true, c ∷ [], cs)))))
    at_quote (inl (e, is)) = rw e (refl, ap (λ (k : ℕ). k ∷ cs) is)
    at_quote (inr (e, nq)) = rw e (at_angle nq (eqb_tells c 60))

-- a value behind the bytes text of it
abbrev ValueMade : ℕ → List ℕ → List ℕ → Result (List ℕ × List ℕ) Stop → Type 0
ValueMade q text b (Ok (v, rest)) = (inner : List ℕ) × (value : List ℕ) × Value q inner value × (v ≡ text ++ value) × (b ≡ inner ++ q ∷ rest)
ValueMade q text b (Err e) = Unit {0}

value_further : (q : ℕ) (text b piece rest : List ℕ) (r : Result (List ℕ × List ℕ) Stop) → PieceMade q b (Ok (true, piece, rest)) → ValueMade q (text ++ piece) rest r → ValueMade q text b r
value_further q text b piece rest (Err e) m h = tt
value_further q text b piece rest (Ok (v, more)) m h =
    (m.0 ++ h.0, piece ++ h.1, m.1 h.0 h.1 h.2, h.3 ∙ append_assoc text piece h.1, m.2 ∙ (ap (λ (l : List ℕ). m.0 ++ l) h.4 ∙ sym (append_assoc m.0 h.0 (q ∷ more))))

values_made : (q : ℕ) {text b : List ℕ} {r : Result (List ℕ × List ℕ) Stop} → Values q text b r → ValueMade q text b r
values_made q (refused e) = tt
values_made q {text = text} {b = b} (closed {piece = piece} {rest = rest} e) =
    let m : PieceMade q b (Ok (false, piece, rest)) = subst (PieceMade q b) e (piece_made q b) in
    ([], [], grammar.empty, ap (λ (l : List ℕ). text ++ l) m.0, m.1)
values_made q {text = text} {b = b} {r = r} (goes_on {piece = piece} {rest = rest} e h) =
    let m : PieceMade q b (Ok (true, piece, rest)) = subst (PieceMade q b) e (piece_made q b) in
    value_further q text b piece rest r m (values_made q h)

-- ---- attributes

pub opening_made : (b name rest : List ℕ) (q : ℕ) → opening_at b ≡ Ok (name, q, rest)
    → (before : List ℕ) × (after : List ℕ) × IsTagName name × IsSpace before × IsSpace after × ((q ≡ 34) ⊎ (q ≡ 39)) × (b ≡ name ++ (before ++ (61 ∷ after ++ q ∷ rest)))
unfolding opening_at
opening_made b name rest q e =
    let n = bound (name_at b) _ (name, q, rest) e in
    let eq = bound (byte_at 61 (remaining is_space n.0.1)) _ (name, q, rest) n.2 in
    let quoted = bound (quote_at (remaining is_space eq.0)) _ (name, q, rest) eq.2 in
    let same = triples _ refl quoted.2 in
    let is = name_made b n.0.0 n.0.1 n.1 in
    let mark = byte_made 61 (remaining is_space n.0.1) eq.0 eq.1 in
    let qs = quote_made (remaining is_space eq.0) quoted.0.1 quoted.0.0 quoted.1 in
    let before = prefix is_space n.0.1 in
    let after = prefix is_space eq.0 in
    let tail : eq.0 ≡ after ++ quoted.0.0 ∷ quoted.0.1 = split_is is_space eq.0 ∙ ap (λ (l : List ℕ). after ++ l) qs.1 in
    let middle : n.0.1 ≡ before ++ (61 ∷ after ++ quoted.0.0 ∷ quoted.0.1) = split_is is_space n.0.1 ∙ ap (λ (l : List ℕ). before ++ l) (mark ∙ ap (λ (l : List ℕ). 61 ∷ l) tail) in
    let whole : b ≡ n.0.0 ++ (before ++ (61 ∷ after ++ quoted.0.0 ∷ quoted.0.1)) = is.1 ∙ ap (λ (l : List ℕ). n.0.0 ++ l) middle in
    let P : List ℕ → ℕ → List ℕ → Type 0 = λ x y z. (before : List ℕ) × (after : List ℕ) × IsTagName x × IsSpace before × IsSpace after × ((y ≡ 34) ⊎ (y ≡ 39)) ×
    (b ≡ x ++ (before ++ (61 ∷ after ++ y ∷ z))) in
    subst (λ (x : List ℕ). P x q rest) same.0 (subst (λ (y : ℕ). P n.0.0 y rest) same.1 (subst (λ (z : List ℕ). P n.0.0 quoted.0.0 z) same.2
    (before, after, is.0, prefix_all is_space n.0.1, prefix_all is_space eq.0, qs.0, whole)))

abbrev pub AttributeMade : List ℕ → Result (Attribute × List ℕ) Stop → Type 0
AttributeMade b r = Made (λ text a. IsAttribute text a) b r

named_value : (b name rest : List ℕ) (q : ℕ) (r : Result (List ℕ × List ℕ) Stop) → opening_at b ≡ Ok (name, q, rest) → ValueMade q [] rest r → AttributeMade b (naming name r)
named_value b name rest q (Err e) o h = tt
named_value b name rest q (Ok (v, more)) o h =
    let w = opening_made b name rest q o in
    let inner = h.0 in
    let end = inner ++ q ∷ [] in
    let text = name ++ (w.0 ++ (61 ∷ w.1 ++ (q ∷ end))) in
    let value : Value q inner v = subst (λ (x : List ℕ). Value q inner x) (sym h.3) h.2 in
    let tail : rest ≡ end ++ more = h.4 ∙ sym (append_assoc inner (q ∷ []) more) in
    let is : IsAttribute text (record { name = name; value = v }) = record {
      before = w.0;
      after = w.1;
      q = q;
      inner = inner;
      name_is = w.2;
      before_is = w.3;
      after_is = w.4;
      quote_is = w.5;
      value_is = value;
      text_is = refl;
    } in
    let whole : b ≡ text ++ more = w.6 ∙ (ap (λ (l : List ℕ). name ++ (w.0 ++ (61 ∷ w.1 ++ q ∷ l))) tail ∙ regroup name w.0 w.1 end more) in
    (text, is, whole)
  where
    regroup : (n s t e m : List ℕ) → n ++ (s ++ (61 ∷ t ++ q ∷ (e ++ m))) ≡ (n ++ (s ++ (61 ∷ t ++ (q ∷ e)))) ++ m
    regroup n s t e m = simp append_assoc

pub attribute_made : {b : List ℕ} {r : Result (Attribute × List ℕ) Stop} → AttributeAt b r → AttributeMade b r
attribute_made (unopened e) = tt
attribute_made {b = b} (opened {name = name} {rest = rest} {q = q} {r = r} o v) = named_value b name rest q r o (values_made q v)

-- the end of an empty element, behind its `/`
abbrev slash_end : Result (List ℕ) Stop → Result (Option Bool × List ℕ) Stop
slash_end r = r >>= λ x. Ok (Some true, x)

-- the end of a start tag, behind a name or an attribute
mark_end_made : (b rest : List ℕ) (empty : Bool) → mark_at b ≡ Ok (Some empty, rest) → (space : List ℕ) × IsSpace space × (b ≡ space ++ closing empty rest)
unfolding mark_at
mark_end_made b rest empty e =
    (prefix is_space b, prefix_all is_space b, split_is is_space b ∙ ap (λ (l : List ℕ). prefix is_space b ++ l) (ended_by (remaining is_space b) (ltb (length (remaining is_space b)) (length b)) e))
  where
    slash : (r : Result (List ℕ) Stop) (cs : List ℕ) → byte_at 62 cs ≡ r → slash_end r ≡ Ok (Some empty, rest) → 47 ∷ cs ≡ closing empty rest
    slash (Err s) cs is f = cc
    slash (Ok x) cs is f =
        let same = pairs _ refl f in
        let some = same.0 in
        let one : true ≡ empty = cc in
        let two : x ≡ rest = same.1 in
        let mark = byte_made 62 cs x is in
        subst (λ (t : Bool). 47 ∷ cs ≡ closing t rest) one (ap (λ (l : List ℕ). 47 ∷ l) (mark ∙ ap (λ (l : List ℕ). 62 ∷ l) two))

    ended_by : (x : List ℕ) (spaced : Bool) → mark_behind spaced x ≡ Ok (Some empty, rest) → x ≡ closing empty rest
    ended_by [] spaced f = cc
    ended_by (c ∷ cs) spaced f = tested (eqb c 62) (eqb c 47) refl refl f
      where
        tested : (s t : Bool) → eqb c 62 ≡ s → eqb c 47 ≡ t
            → cond {A = Result (Option Bool × List ℕ) Stop} s (Ok (Some false, cs)) (cond {A = Result (Option Bool × List ℕ) Stop} t (slash_end (byte_at 62 cs))
            (cond {A = Result (Option Bool × List ℕ) Stop} spaced (Ok (None, c ∷ cs)) (Err wrong))) ≡ Ok (Some empty, rest)
            → c ∷ cs ≡ closing empty rest
        tested true t g h k =
            let is = eqb-true c 62 g in
            let same = pairs _ refl k in
            let some = same.0 in
            let one : false ≡ empty = cc in
            let two : cs ≡ rest = same.1 in
            subst (λ (t : Bool). c ∷ cs ≡ closing t rest) one (ap (λ (k : ℕ). k ∷ cs) is ∙ ap (λ (l : List ℕ). 62 ∷ l) two)
        tested false true g h k =
            let is = eqb-true c 47 h in
            ap (λ (k : ℕ). k ∷ cs) is ∙ slash (byte_at 62 cs) cs refl k
        tested false false g h k = last spaced k
          where
            last : (u : Bool) → cond {A = Result (Option Bool × List ℕ) Stop} u (Ok (None, c ∷ cs)) (Err wrong) ≡ Ok (Some empty, rest) → c ∷ cs ≡ closing empty rest
            last true m = let none = (pairs _ refl m).0 in cc
            last false m = cc

-- another attribute, behind white space
mark_name_made : (b rest : List ℕ) → mark_at b ≡ Ok (None, rest) → (space : List ℕ) × IsSpace space × (0 < length space) × (b ≡ space ++ rest)
unfolding mark_at
mark_name_made b rest e =
    let spaced = ltb (length (remaining is_space b)) (length b) in
    let w = name_by (remaining is_space b) spaced e in
    let lt : length (remaining is_space b) < length b = ltb-true (length (remaining is_space b)) (length b) w.0 in
    (prefix is_space b, prefix_all is_space b, omega (arith, lt, parted is_space b), split_is is_space b ∙ ap (λ (l : List ℕ). prefix is_space b ++ l) w.1)
  where
    slash : (r : Result (List ℕ) Stop) → slash_end r ≡ Ok (None, rest) → ⊥
    slash (Err s) f = cc
    slash (Ok x) f = let some = (pairs _ refl f).0 in cc

    name_by : (x : List ℕ) (spaced : Bool) → mark_behind spaced x ≡ Ok (None, rest) → (spaced ≡ true) × (x ≡ rest)
    name_by [] spaced f = cc
    name_by (c ∷ cs) spaced f = tested (eqb c 62) (eqb c 47) spaced f
      where
        tested : (s t u : Bool)
            → cond {A = Result (Option Bool × List ℕ) Stop} s (Ok (Some false, cs)) (cond {A = Result (Option Bool × List ℕ) Stop} t (slash_end (byte_at 62 cs))
            (cond {A = Result (Option Bool × List ℕ) Stop} u (Ok (None, c ∷ cs)) (Err wrong))) ≡ Ok (None, rest)
            → (u ≡ true) × (c ∷ cs ≡ rest)
        tested true t u k = let some = (pairs _ refl k).0 in cc
        tested false true u k = absurd (slash (byte_at 62 cs) k)
        tested false false true k = (refl, (pairs _ refl k).1)
        tested false false false k = cc

-- what stands behind a name and the attributes seen
abbrev TailMade : List Attribute → List ℕ → Result (List Attribute × Bool × List ℕ) Stop → Type 0
TailMade seen b (Ok (attributes, empty, rest)) =
    (inner : List ℕ) × (others : List Attribute) × (space : List ℕ) × Attributes inner others × AreNew seen others × (attributes ≡ seen ++ others) × IsSpace space ×
    (b ≡ inner ++ (space ++ closing empty rest))
TailMade seen b (Err e) = Unit {0}

tail_further : (seen : List Attribute) (a : Attribute) (b rest more : List ℕ) (r : Result (List Attribute × Bool × List ℕ) Stop)
    → mark_at b ≡ Ok (None, rest) → AttributeMade rest (Ok (a, more)) → has_name a.name seen ≡ false → TailMade (seen ++ a ∷ []) more r → TailMade seen b r
tail_further seen a b rest more (Err e) m at new h = tt
tail_further seen a b rest more (Ok (attributes, empty, last)) m at new h =
    let w = mark_name_made b rest m in
    let text = at.0 in
    let inner = h.0 in
    let end = h.2 ++ closing empty last in
    let whole : b ≡ (w.0 ++ (text ++ inner)) ++ end = w.3 ∙ (ap (λ (l : List ℕ). w.0 ++ l) (at.2 ∙ ap (λ (l : List ℕ). text ++ l) h.7) ∙ regroup w.0 text inner end) in
    (w.0 ++ (text ++ inner), a ∷ h.1, h.2, grammar.more w.0 text inner w.1 w.2 at.1 h.3, (new, h.4), h.5 ∙ append_push seen a h.1, h.6, whole)
  where
    regroup : (x y z e : List ℕ) → x ++ (y ++ (z ++ e)) ≡ (x ++ (y ++ z)) ++ e
    regroup x y z e = simp append_assoc

tails_made : {seen : List Attribute} {b : List ℕ} {r : Result (List Attribute × Bool × List ℕ) Stop} → Tails seen b r → TailMade seen b r
tails_made (unmarked e) = tt
tails_made {seen = seen} {b = b} (ended {rest = rest} {empty = empty} e) =
    let w = mark_end_made b rest empty e in
    ([], [], w.0, grammar.none, tt, sym (append_nil seen), w.1, w.2)
tails_made (broken m at) = tt
tails_made (twice m at t) = tt
tails_made {seen = seen} {b = b} {r = r} (another {rest = rest} {more = more} {a = a} m at new h) =
    tail_further seen a b rest more r m (attribute_made at) new (tails_made h)

-- ---- what begins with `<`

-- behind the `<`
abbrev pub MarkupMade : List ℕ → Result (Markup × List ℕ) Stop → Type 0
MarkupMade b (Ok (Start name attributes empty, rest)) = (text : List ℕ) × IsStart text name attributes empty × (60 ∷ b ≡ text ++ rest)
MarkupMade b (Ok (Finish name, rest)) = (text : List ℕ) × IsFinish text name × (60 ∷ b ≡ text ++ rest)
MarkupMade b (Ok (Skipped, rest)) = (text : List ℕ) × IsSkipped text × (60 ∷ b ≡ text ++ rest)
MarkupMade b (Err e) = Unit {0}

closing_then : (empty : Bool) (rest : List ℕ) → closing empty rest ≡ closing empty [] ++ rest
closing_then true rest = refl
closing_then false rest = refl

start_named : (b name rest : List ℕ) (r : Result (List Attribute × Bool × List ℕ) Stop) → name_at b ≡ Ok (name, rest) → TailMade [] rest r → MarkupMade b (starting name r)
start_named b name rest (Err e) n h = tt
start_named b name rest (Ok (attributes, empty, last)) n h =
    let is = name_made b name rest n in
    let inner = h.0 in
    let space = h.2 in
    let text = 60 ∷ name ++ (inner ++ (space ++ closing empty [])) in
    let are : Attributes inner attributes = subst (λ (l : List Attribute). Attributes inner l) (sym h.5) h.3 in
    let once : AreNew [] attributes = subst (λ (l : List Attribute). AreNew [] l) (sym h.5) h.4 in
    let made : IsStart text name attributes empty = record { inner = inner; space = space; name_is = is.0; attributes_are = are; each_once = once; space_is = h.6; text_is = refl } in
    let tail : rest ≡ inner ++ (space ++ (closing empty [] ++ last)) = h.7 ∙ ap (λ (l : List ℕ). inner ++ (space ++ l)) (closing_then empty last) in
    (text, made, ap (λ (l : List ℕ). 60 ∷ l) (is.1 ∙ (ap (λ (l : List ℕ). name ++ l) tail ∙ regroup name inner space (closing empty []) last)))
  where
    regroup : (n i s c m : List ℕ) → n ++ (i ++ (s ++ (c ++ m))) ≡ (n ++ (i ++ (s ++ c))) ++ m
    regroup n i s c m = simp append_assoc

starts_markup : {b : List ℕ} {r : Result (Markup × List ℕ) Stop} → Starts b r → MarkupMade b r
starts_markup (unnamed e) = tt
starts_markup {b = b} (named {name = name} {rest = rest} {r = r} n h) = start_named b name rest r n (tails_made h)

finish_made : (b : List ℕ) (r : Result (Markup × List ℕ) Stop) → finish_at b ≡ r → MarkupMade (47 ∷ b) r
unfolding finish_at
finish_made b (Err e) h = tt
finish_made b (Ok (m, last)) h =
    let n = bound (name_at b) _ (m, last) h in
    let eq = bound (byte_at 62 (remaining is_space n.0.1)) _ (m, last) n.2 in
    let is = name_made b n.0.0 n.0.1 n.1 in
    let mark = byte_made 62 (remaining is_space n.0.1) eq.0 eq.1 in
    let space = prefix is_space n.0.1 in
    let text = codes "</" ++ (n.0.0 ++ (space ++ codes ">")) in
    let made : IsFinish text n.0.0 = record { space = space; name_is = is.0; space_is = prefix_all is_space n.0.1; text_is = refl } in
    let tail : n.0.1 ≡ space ++ (62 ∷ eq.0) = split_is is_space n.0.1 ∙ ap (λ (l : List ℕ). space ++ l) mark in
    let whole : 60 ∷ 47 ∷ b ≡ text ++ eq.0 = ap (λ (l : List ℕ). 60 ∷ 47 ∷ l) (is.1 ∙ (ap (λ (l : List ℕ). n.0.0 ++ l) tail ∙ regroup n.0.0 space eq.0)) in
    let done : MarkupMade (47 ∷ b) (Ok (Finish n.0.0, eq.0)) = (text, made, whole) in
    subst (λ (r : Result (Markup × List ℕ) Stop). MarkupMade (47 ∷ b) r) eq.2 done
  where
    regroup : (n s m : List ℕ) → n ++ (s ++ 62 ∷ m) ≡ (n ++ (s ++ codes ">")) ++ m
    regroup n s m = simp append_assoc

-- a word stands in front of a text only if it stands in front of all that begins so
not_before : (text rest word : List ℕ) → starts_with nat_eq (text ++ rest) word ≡ false → starts_with nat_eq text word ≡ false
not_before text rest word e = tested (starts_with nat_eq text word) refl
  where
    tested : (t : Bool) → starts_with nat_eq text word ≡ t → starts_with nat_eq text word ≡ false
    tested false f = f
    tested true f =
        let front = starts_made text word f in
        let whole : text ++ rest ≡ word ++ (drop (length word) text ++ rest) = ap (λ (l : List ℕ). l ++ rest) front ∙ append_assoc word (drop (length word) text) rest in
        let there = (starts_is Decides-eqb (text ++ rest) word (starts_with nat_eq (text ++ rest) word) refl).1 (drop (length word) text ++ rest) whole in
        cc

up_to_made : (word b rest : List ℕ) → past_word word b ≡ Ok rest → (text : List ℕ) × UpTo word text × (b ≡ text ++ rest)
unfolding past_word
up_to_made word [] rest e = cc
up_to_made word (c ∷ cs) rest e = tested (starts_with nat_eq (c ∷ cs) word) refl e (λ f. up_to_made word cs rest f)
  where
    tested : (t : Bool) → starts_with nat_eq (c ∷ cs) word ≡ t → cond {A = Result (List ℕ) Stop} t (Ok (drop (length word) (c ∷ cs))) (past_word word cs) ≡ Ok rest
        → (past_word word cs ≡ Ok rest → (text : List ℕ) × UpTo word text × (cs ≡ text ++ rest)) → (text : List ℕ) × UpTo word text × (c ∷ cs ≡ text ++ rest)
    tested true f g more =
        let same : drop (length word) (c ∷ cs) ≡ rest = cc in
        (word, grammar.here, starts_made (c ∷ cs) word f ∙ ap (λ (l : List ℕ). word ++ l) same)
    tested false f g more =
        let w = more g in
        let whole : c ∷ cs ≡ (c ∷ w.0) ++ rest = ap (λ (l : List ℕ). c ∷ l) w.2 in
        let none : starts_with nat_eq ((c ∷ w.0) ++ rest) word ≡ false = subst (λ (l : List ℕ). starts_with nat_eq l word ≡ false) whole f in
        (c ∷ w.0, grammar.later (not_before (c ∷ w.0) rest word none) w.1, whole)

comment_made : (b : List ℕ) (r : Result (Markup × List ℕ) Stop) → comment_at b ≡ r → MarkupMade (33 ∷ b) r
unfolding comment_at
comment_made b (Err e) h = tt
comment_made b (Ok (m, last)) h =
    let dashes = bound (word_at (codes "--") b) _ (m, last) h in
    let past = bound (past_word (codes "-->") dashes.0) _ (m, last) dashes.2 in
    let front = word_made (codes "--") b dashes.0 dashes.1 in
    let w = up_to_made (codes "-->") dashes.0 past.0 past.1 in
    let whole : 60 ∷ 33 ∷ b ≡ (codes "<!--" ++ w.0) ++ past.0 = ap (λ (l : List ℕ). 60 ∷ 33 ∷ l) (front ∙ ap (λ (l : List ℕ). codes "--" ++ l) w.2) in
    let done : MarkupMade (33 ∷ b) (Ok (Skipped, past.0)) = (codes "<!--" ++ w.0, grammar.comment w.1, whole) in
    subst (λ (r : Result (Markup × List ℕ) Stop). MarkupMade (33 ∷ b) r) past.2 done

instruction_made : (b : List ℕ) (r : Result (Markup × List ℕ) Stop) → instruction_at b ≡ r → MarkupMade (63 ∷ b) r
unfolding instruction_at
instruction_made b (Err e) h = tt
instruction_made b (Ok (m, last)) h =
    let past = bound (past_word (codes "?>") b) _ (m, last) h in
    let w = up_to_made (codes "?>") b past.0 past.1 in
    let whole : 60 ∷ 63 ∷ b ≡ (codes "<?" ++ w.0) ++ past.0 = ap (λ (l : List ℕ). 60 ∷ 63 ∷ l) w.2 in
    let done : MarkupMade (63 ∷ b) (Ok (Skipped, past.0)) = (codes "<?" ++ w.0, grammar.instruction w.1, whole) in
    subst (λ (r : Result (Markup × List ℕ) Stop). MarkupMade (63 ∷ b) r) past.2 done

pub chosen : (t : Bool) (P Q : Type 0) → MatchBool t P Q → ((t ≡ true) × P) ⊎ ((t ≡ false) × Q)
chosen true P Q h = inl (refl, h)
chosen false P Q h = inr (refl, h)

-- all that is read
pub markups_made : (b : List ℕ) (r : Result (Markup × List ℕ) Stop) → Markups b r → MarkupMade b r
markups_made [] r h = subst (λ (x : Result (Markup × List ℕ) Stop). MarkupMade [] x) (sym h) tt
markups_made (c ∷ cs) r h =
    elim (chosen (eqb c 63) _ _ h) [
      | inl k ↦ subst (λ (n : ℕ). MarkupMade (n ∷ cs) r) (sym (eqb-true c 63 k.0)) (instruction_made cs r (sym k.1))
      | inr k ↦ elim (chosen (eqb c 33) _ _ k.1) [
        | inl l ↦ subst (λ (n : ℕ). MarkupMade (n ∷ cs) r) (sym (eqb-true c 33 l.0)) (comment_made cs r (sym l.1))
        | inr l ↦ elim (chosen (eqb c 47) _ _ l.1) [
          | inl m ↦ subst (λ (n : ℕ). MarkupMade (n ∷ cs) r) (sym (eqb-true c 47 m.0)) (finish_made cs r (sym m.1))
          | inr m ↦ starts_markup m.1
        ]
      ]
    ]
