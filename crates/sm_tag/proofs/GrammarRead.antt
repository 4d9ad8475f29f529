-- What is made as the grammar says is read as a tag, whatever follows.
use Rattle.std.proofs.Common.{◌≡◌, ◌≢◌, ◌⊎◌, inl, inr, ◌<◌, ◌≤◌, ℕ, Bool, true, false, ◌||◌, eqb, ltb, List, [], ◌∷◌, ◌++◌, length, drop, Some, None, Result, Ok, refl, ap, sym, ◌∙◌, subst, append_assoc, arith, length-append}
use Rattle.std.specs.Prelude.{codes, encode_utf8, nat_eq}
use Rattle.std.specs.Cmp.Lexicographic.{pointwise}
use Rattle.std.specs.List.{list_all, starts_with}
use Rattle.std.proofs.lemmas.Bool.{and_parts, eqb-true, eq-eqb, ne_eqb, lt-ltb}
use Rattle.std.proofs.lemmas.Bool.Decides.{Decides-eqb}
use Rattle.std.proofs.lemmas.List.{take-append-le}
use Rattle.std.proofs.Math.Seq.{drop-append_seam}
use Rattle.std.proofs.lemmas.Slice.Eq.{starts_is}
use Rattle.sm_model.specs.declared.tag.Attribute.{Attribute}
use Rattle.sm_tag.specs.declared.grammar.Markup.{Markup}
use Rattle.sm_tag.specs.declared.grammar.Markup.TheVariants.{Skipped, Finish, Start}
use Rattle.sm_model.specs.Digits.{is_digit}
use Rattle.sm_tag.specs.TagBytes.{is_tag_start, is_tag_byte, is_space, prefix, remaining}
use Rattle.sm_tag.specs.TagParts.{Stop, name_at, quote_at, word_at, entity_at, number_end, number_at, reference_at, piece_at, Values, closed, goes_on}
use Rattle.sm_tag.specs.TagParts.{opening_at, AttributeAt, opened, mark_at, Tails, ended, another}
use Rattle.sm_tag.specs.TagMarkup.{past_word, finish_at, comment_at, instruction_at, Starts, named, Markups}
use Rattle.sm_tag.specs.TagText.{IsTagName, closing}
use Rattle.sm_tag.proofs.WrittenTags.{append_nil, append_push, front_until, behind_until, name_again, not_of}
use Rattle.sm_tag.specs.Grammar as grammar
use Rattle.sm_tag.specs.Grammar.{IsSpace, Reference, Value, IsAttribute, Attributes, AreNew, IsStart, IsFinish, UpTo, IsSkipped}

-- ---- references and values

word_stands : (word rest : List ℕ) → starts_with nat_eq (word ++ rest) word ≡ true
word_stands word rest = (starts_is Decides-eqb (word ++ rest) word (starts_with nat_eq (word ++ rest) word) refl).1 rest refl

-- a reference, behind its `&`
pub reference_read : {r : List ℕ} {x : ℕ} → Reference r x → (rest : List ℕ) → (text : List ℕ) × (r ≡ 38 ∷ text) × (reference_at (text ++ rest) ≡ Ok (x, rest))
unfolding reference_at entity_at word_at number_at number_end
reference_read grammar.less rest = (codes "lt;", refl, refl)
reference_read grammar.greater rest = (codes "gt;", refl, refl)
reference_read grammar.ampersand rest = (codes "amp;", refl, refl)
reference_read grammar.quote rest = (codes "quot;", refl, refl)
reference_read grammar.apostrophe rest = (codes "apos;", refl, refl)
reference_read (grammar.number d ds all scalar) rest =
    let f : prefix is_digit ((d ∷ ds) ++ 59 ∷ rest) ≡ d ∷ ds = front_until is_digit (d ∷ ds) 59 rest all refl in
    let b : remaining is_digit ((d ∷ ds) ++ 59 ∷ rest) ≡ 59 ∷ rest = behind_until is_digit (d ∷ ds) 59 rest all refl in
    let whole : (35 ∷ d ∷ ds ++ codes ";") ++ rest ≡ 35 ∷ (d ∷ ds) ++ 59 ∷ rest = ap (λ (l : List ℕ). 35 ∷ d ∷ l) (append_assoc ds (codes ";") rest) in
    (35 ∷ d ∷ ds ++ codes ";", refl, ap reference_at whole ∙ rw (f, b, scalar) refl)

abbrev pub IsQuote : ℕ → Type 0
IsQuote q = (q ≡ 34) ⊎ (q ≡ 39)

not_quote : (q k : ℕ) → IsQuote q → eqb k 34 ≡ false → eqb k 39 ≡ false → eqb k q ≡ false
not_quote q k (inl e) double single = rw e double
not_quote q k (inr e) double single = rw e single

end_piece : (q : ℕ) (rest : List ℕ) → piece_at q (q ∷ rest) ≡ Ok (false, [], rest)
unfolding piece_at
end_piece q rest = let same : eqb q q ≡ true = eq-eqb q q refl in rw same refl

byte_piece : (q c : ℕ) (rest : List ℕ) → c ≢ q → c ≢ 60 → c ≢ 38 → piece_at q (c ∷ rest) ≡ Ok (true, c ∷ [], rest)
unfolding piece_at
byte_piece q c rest nq na nm =
    let a : eqb c q ≡ false = ne_eqb c q nq in
    let b : eqb c 60 ≡ false = ne_eqb c 60 na in
    let d : eqb c 38 ≡ false = ne_eqb c 38 nm in
    rw (a, b, d) refl

reference_piece : (q x : ℕ) (text rest : List ℕ) → IsQuote q → reference_at (text ++ rest) ≡ Ok (x, rest) → piece_at q (38 ∷ text ++ rest) ≡ Ok (true, encode_utf8 x, rest)
unfolding piece_at
reference_piece q x text rest is e =
    let a : eqb 38 q ≡ false = not_quote q 38 is refl refl in
    rw (a, e) refl

values_read : (q : ℕ) → IsQuote q → {inner value : List ℕ} → Value q inner value → (text rest : List ℕ) → Values q text (inner ++ q ∷ rest) (Ok (text ++ value, rest))
values_read q is grammar.empty text rest = closed (end_piece q rest)
values_read q is (grammar.byte {c = c} {text = inner} {value = value} nq na nm v) text rest =
    let P : List ℕ → Type 0 = λ l. Values q text (c ∷ inner ++ q ∷ rest) (Ok (l, rest)) in
    subst P (append_assoc text (c ∷ []) value) (goes_on (byte_piece q c (inner ++ q ∷ rest) nq na nm) (values_read q is v (text ++ c ∷ []) rest))
values_read q is (grammar.reference {r = r} {text = inner} {value = value} {c = x} ref v) text rest =
    let w = reference_read ref (inner ++ q ∷ rest) in
    let P : List ℕ → Type 0 = λ l. Values q text ((r ++ inner) ++ q ∷ rest) (Ok (l, rest)) in
    let whole : (r ++ inner) ++ q ∷ rest ≡ 38 ∷ w.0 ++ (inner ++ q ∷ rest) = append_assoc r inner (q ∷ rest) ∙ ap (λ (l : List ℕ). l ++ (inner ++ q ∷ rest)) w.1 in
    let Q : List ℕ → Type 0 = λ l. Values q text l (Ok ((text ++ encode_utf8 x) ++ value, rest)) in
    subst P (append_assoc text (encode_utf8 x) value)
    (subst Q (sym whole) (goes_on (reference_piece q x w.0 (inner ++ q ∷ rest) is w.2) (values_read q is v (text ++ encode_utf8 x) rest)))

-- ---- attributes

space_ends : (c : ℕ) → is_space c ≡ true → is_tag_byte c ≡ false
space_ends c e = tested (eqb c 32) (eqb c 9) (eqb c 13) (eqb c 10) refl refl refl refl e
  where
    at : (k : ℕ) → eqb c k ≡ true → is_tag_byte k ≡ false → is_tag_byte c ≡ false
    at k is other = let same = eqb-true c k is in rw same other

    tested : (s t f r : Bool) → eqb c 32 ≡ s → eqb c 9 ≡ t → eqb c 13 ≡ f → eqb c 10 ≡ r → (s || (t || (f || r))) ≡ true → is_tag_byte c ≡ false
    tested true t f r a b d g h = at 32 a refl
    tested false true f r a b d g h = at 9 b refl
    tested false false true r a b d g h = at 13 d refl
    tested false false false true a b d g h = at 10 g refl
    tested false false false false a b d g h = cc

start_is_no_space : (c : ℕ) → is_tag_start c ≡ true → is_space c ≡ false
start_is_no_space c is =
    let space : eqb c 32 ≡ false = not_of is_tag_start c 32 is refl in
    let tab : eqb c 9 ≡ false = not_of is_tag_start c 9 is refl in
    let return : eqb c 13 ≡ false = not_of is_tag_start c 13 is refl in
    let feed : eqb c 10 ≡ false = not_of is_tag_start c 10 is refl in
    rw (space, tab, return, feed) refl

-- a name, white space, and a byte that is of neither
name_then : (n space : List ℕ) (k : ℕ) (rest : List ℕ) → IsTagName n → IsSpace space → is_tag_byte k ≡ false → name_at (n ++ (space ++ k ∷ rest)) ≡ Ok (n, space ++ k ∷ rest)
name_then n [] k rest is spaces ends = name_again n k rest is ends
name_then n (s ∷ ss) k rest is spaces ends =
    name_again n s (ss ++ k ∷ rest) is (space_ends s (and_parts (is_space s) (list_all is_space ss) spaces).0)

quote_read : (q : ℕ) (rest : List ℕ) → IsQuote q → quote_at (q ∷ rest) ≡ Ok (q, rest)
unfolding quote_at
quote_read q rest (inl e) = rw e refl
quote_read q rest (inr e) = rw e refl

quote_is_no_space : (q : ℕ) → IsQuote q → is_space q ≡ false
quote_is_no_space q (inl e) = rw e refl
quote_is_no_space q (inr e) = rw e refl

pub opening_read : (n before after : List ℕ) (q : ℕ) (rest : List ℕ) → IsTagName n → IsSpace before → IsSpace after → IsQuote q
    → opening_at (n ++ (before ++ (61 ∷ after ++ q ∷ rest))) ≡ Ok (n, q, rest)
unfolding opening_at
opening_read n before after q rest is first second quote =
    let name = name_then n before 61 (after ++ q ∷ rest) is first refl in
    let b : remaining is_space (before ++ (61 ∷ after ++ q ∷ rest)) ≡ 61 ∷ after ++ q ∷ rest = behind_until is_space before 61 (after ++ q ∷ rest) first refl in
    let a : remaining is_space (after ++ q ∷ rest) ≡ q ∷ rest = behind_until is_space after q rest second (quote_is_no_space q quote) in
    let mark = quote_read q rest quote in
    rw (name, b, a, mark) refl

pub attribute_read : (text : List ℕ) (a : Attribute) (more : List ℕ) → IsAttribute text a → AttributeAt (text ++ more) (Ok (a, more))
attribute_read text a more is =
    let inner = is.inner in
    let q = is.q in
    let whole : text ++ more ≡ a.name ++ (is.before ++ (61 ∷ is.after ++ (q ∷ (inner ++ q ∷ more)))) = ap (λ (l : List ℕ). l ++ more) is.text_is ∙ regroup a.name is.before is.after inner q more in
    let P : List ℕ → Type 0 = λ l. AttributeAt l (Ok (a, more)) in
    subst P (sym whole)
    (opened (opening_read a.name is.before is.after q (inner ++ q ∷ more) is.name_is is.before_is is.after_is is.quote_is) (values_read q is.quote_is is.value_is [] more))
  where
    regroup : (n b t i : List ℕ) (q : ℕ) (m : List ℕ) → (n ++ (b ++ (61 ∷ t ++ (q ∷ i ++ q ∷ [])))) ++ m ≡ n ++ (b ++ (61 ∷ t ++ (q ∷ (i ++ q ∷ m))))
    regroup n b t i q m = simp append_assoc

-- ---- what stands behind a name

-- a name's first byte
first_byte : (n tail : List ℕ) → IsTagName n → (c : ℕ) × (z : List ℕ) × (is_tag_start c ≡ true) × (n ++ tail ≡ c ∷ z)
first_byte [] tail is = absurd is
first_byte (c ∷ cs) tail is = (c, cs ++ tail, is.0, refl)

attribute_begins : (text : List ℕ) (a : Attribute) → IsAttribute text a → (c : ℕ) × (z : List ℕ) × (is_tag_start c ≡ true) × (text ≡ c ∷ z)
attribute_begins text a is =
    let w = first_byte a.name (is.before ++ (61 ∷ is.after ++ (is.q ∷ is.inner ++ is.q ∷ []))) is.name_is in
    (w.0, w.1, w.2, is.text_is ∙ w.3)

mark_attribute : (space : List ℕ) (c : ℕ) (z : List ℕ) → IsSpace space → 0 < length space → is_tag_start c ≡ true → mark_at (space ++ c ∷ z) ≡ Ok (None, c ∷ z)
unfolding mark_at
mark_attribute space c z is some start =
    let r : remaining is_space (space ++ c ∷ z) ≡ c ∷ z = behind_until is_space space c z is (start_is_no_space c start) in
    let angle : eqb c 62 ≡ false = not_of is_tag_start c 62 start refl in
    let slash : eqb c 47 ≡ false = not_of is_tag_start c 47 start refl in
    let shorter : ltb (length (c ∷ z)) (length (space ++ c ∷ z)) ≡ true = lt-ltb (length (c ∷ z)) (length (space ++ c ∷ z)) (omega (arith, some, length-append space (c ∷ z))) in
    rw (r, shorter, angle, slash) refl

mark_end : (space : List ℕ) (empty : Bool) (rest : List ℕ) → IsSpace space → mark_at (space ++ closing empty rest) ≡ Ok (Some empty, rest)
unfolding mark_at
mark_end space true rest is =
    let r : remaining is_space (space ++ 47 ∷ 62 ∷ rest) ≡ 47 ∷ 62 ∷ rest = behind_until is_space space 47 (62 ∷ rest) is refl in
    rw r refl
mark_end space false rest is =
    let r : remaining is_space (space ++ 62 ∷ rest) ≡ 62 ∷ rest = behind_until is_space space 62 rest is refl in
    rw r refl

tails_read : {inner : List ℕ} {others : List Attribute} → Attributes inner others → (seen : List Attribute) (space : List ℕ) (empty : Bool) (rest : List ℕ) → AreNew seen others → IsSpace space
    → Tails seen (inner ++ (space ++ closing empty rest)) (Ok (seen ++ others, empty, rest))
tails_read grammar.none seen space empty rest new is =
    let P : List Attribute → Type 0 = λ l. Tails seen (space ++ closing empty rest) (Ok (l, empty, rest)) in
    subst P (sym (append_nil seen)) (ended (mark_end space empty rest is))
tails_read (grammar.more before text inner {a = a} {rest = others} spaces some at are) seen space empty rest new is =
    let end = inner ++ (space ++ closing empty rest) in
    let begins = attribute_begins text a at in
    let whole : (before ++ (text ++ inner)) ++ (space ++ closing empty rest) ≡ before ++ (text ++ end) = regroup before text inner (space ++ closing empty rest) in
    let first : text ++ end ≡ begins.0 ∷ (begins.1 ++ end) = ap (λ (l : List ℕ). l ++ end) begins.3 in
    let mark : mark_at (before ++ (text ++ end)) ≡ Ok (None, text ++ end) = subst (λ (l : List ℕ). mark_at (before ++ l) ≡ Ok (None, l)) (sym first) (mark_attribute before begins.0 (begins.1 ++ end) spaces some begins.2) in
    let P : List Attribute → Type 0 = λ l. Tails seen (before ++ (text ++ end)) (Ok (l, empty, rest)) in
    let Q : List ℕ → Type 0 = λ l. Tails seen l (Ok (seen ++ a ∷ others, empty, rest)) in
    subst Q (sym whole)
    (subst P (append_push seen a others) (another mark (attribute_read text a end at) new.0 (tails_read are (seen ++ a ∷ []) space empty rest new.1 is)))
  where
    regroup : (x y z e : List ℕ) → (x ++ (y ++ z)) ++ e ≡ x ++ (y ++ (z ++ e))
    regroup x y z e = simp append_assoc

-- ---- what begins with `<`

-- a name ends where attributes, white space or the end of the tag begin
abbrev Ends : List ℕ → Type 0
Ends y = (k : ℕ) × (z : List ℕ) × (is_tag_byte k ≡ false) × (y ≡ k ∷ z)

space_then_end : (space : List ℕ) (empty : Bool) (rest : List ℕ) → IsSpace space → Ends (space ++ closing empty rest)
space_then_end [] true rest is = (47, 62 ∷ rest, refl, refl)
space_then_end [] false rest is = (62, rest, refl, refl)
space_then_end (s ∷ ss) empty rest is = (s, ss ++ closing empty rest, space_ends s (and_parts (is_space s) (list_all is_space ss) is).0, refl)

space_then : (space rest : List ℕ) → IsSpace space → 0 < length space → Ends (space ++ rest)
space_then [] rest is some = absurd (omega (arith, some))
space_then (s ∷ ss) rest is some = (s, ss ++ rest, space_ends s (and_parts (is_space s) (list_all is_space ss) is).0, refl)

name_ends : {inner : List ℕ} {others : List Attribute} → Attributes inner others → (tail : List ℕ) → Ends tail
    → Ends (inner ++ tail)
name_ends grammar.none tail end = end
name_ends (grammar.more space text inner spaces some at are) tail end =
    let w = space_then space ((text ++ inner) ++ tail) spaces some in
    (w.0, w.1, w.2, append_assoc space (text ++ inner) tail ∙ w.3)

name_before : (n y : List ℕ) → IsTagName n → Ends y → name_at (n ++ y) ≡ Ok (n, y)
name_before n y is end = subst (λ (l : List ℕ). name_at (n ++ l) ≡ Ok (n, l)) (sym end.3) (name_again n end.0 end.1 is end.2)

markups_start : (n y : List ℕ) (r : Result (Markup × List ℕ) Stop) → IsTagName n → Starts (n ++ y) r → Markups (n ++ y) r
markups_start [] y r is h = absurd is
markups_start (c ∷ cs) y r is h =
    let question : eqb c 63 ≡ false = not_of is_tag_start c 63 is.0 refl in
    let exclamation : eqb c 33 ≡ false = not_of is_tag_start c 33 is.0 refl in
    let slash : eqb c 47 ≡ false = not_of is_tag_start c 47 is.0 refl in
    rw (question, exclamation, slash) h

closing_then : (empty : Bool) (rest : List ℕ) → closing empty [] ++ rest ≡ closing empty rest
closing_then true rest = refl
closing_then false rest = refl

pub start_read : (bytes name rest : List ℕ) (attributes : List Attribute) (empty : Bool)
    → ((text : List ℕ) × IsStart text name attributes empty × (60 ∷ bytes ≡ text ++ rest)) → Markups bytes (Ok (Start name attributes empty, rest))
start_read bytes name rest attributes empty (text, is, whole) =
    let tail = is.inner ++ (is.space ++ closing empty rest) in
    let made : text ++ rest ≡ 60 ∷ name ++ tail =
    ap (λ (l : List ℕ). l ++ rest) is.text_is ∙ (regroup name is.inner is.space (closing empty []) rest ∙ ap (λ (l : List ℕ). 60 ∷ name ++ (is.inner ++ (is.space ++ l))) (closing_then empty rest)) in
    let both : 60 ∷ bytes ≡ 60 ∷ name ++ tail = whole ∙ made in
    let same : bytes ≡ name ++ tail = cc in
    let ends = name_ends is.attributes_are (is.space ++ closing empty rest) (space_then_end is.space empty rest is.space_is) in
    let starts : Starts (name ++ tail) (Ok (Start name attributes empty, rest)) = named (name_before name tail is.name_is ends) (tails_read is.attributes_are [] is.space empty rest is.each_once is.space_is) in
    subst (λ (l : List ℕ). Markups l (Ok (Start name attributes empty, rest))) (sym same) (markups_start name tail (Ok (Start name attributes empty, rest)) is.name_is starts)
  where
    regroup : (n i s c m : List ℕ) → (60 ∷ n ++ (i ++ (s ++ c))) ++ m ≡ 60 ∷ n ++ (i ++ (s ++ (c ++ m)))
    regroup n i s c m = simp append_assoc

finish_end : (name space rest : List ℕ) → IsTagName name → IsSpace space → finish_at (name ++ (space ++ 62 ∷ rest)) ≡ Ok (Finish name, rest)
unfolding finish_at
finish_end name space rest is spaces =
    let n = name_then name space 62 rest is spaces refl in
    let r : remaining is_space (space ++ 62 ∷ rest) ≡ 62 ∷ rest = behind_until is_space space 62 rest spaces refl in
    rw (n, r) refl

pub finish_read : (bytes name rest : List ℕ) → ((text : List ℕ) × IsFinish text name × (60 ∷ bytes ≡ text ++ rest)) → Markups bytes (Ok (Finish name, rest))
finish_read bytes name rest (text, is, whole) =
    let tail = name ++ (is.space ++ 62 ∷ rest) in
    let made : text ++ rest ≡ 60 ∷ 47 ∷ tail = ap (λ (l : List ℕ). l ++ rest) is.text_is ∙ regroup name is.space rest in
    let both : 60 ∷ bytes ≡ 60 ∷ 47 ∷ tail = whole ∙ made in
    let same : bytes ≡ 47 ∷ tail = cc in
    subst (λ (l : List ℕ). Markups l (Ok (Finish name, rest))) (sym same) (sym (finish_end name is.space rest is.name_is is.space_is))
  where
    regroup : (n s m : List ℕ) → (codes "</" ++ (n ++ (s ++ codes ">"))) ++ m ≡ 60 ∷ 47 ∷ n ++ (s ++ 62 ∷ m)
    regroup n s m = simp append_assoc

no_shorter : (word : List ℕ) {text : List ℕ} → UpTo word text → length word ≤ length text
no_shorter word grammar.here = omega arith
no_shorter word (grammar.later e u) = omega (arith, no_shorter word u)

still_not : (text rest word : List ℕ) → length word ≤ length text → starts_with nat_eq text word ≡ false → starts_with nat_eq (text ++ rest) word ≡ false
still_not text rest word le e = ap (pointwise nat_eq word) (take-append-le (length word) text rest le) ∙ e

word_first : (c : ℕ) (cs rest : List ℕ) → past_word (c ∷ cs) ((c ∷ cs) ++ rest) ≡ Ok rest
unfolding past_word
word_first c cs rest =
    let stands : starts_with nat_eq (c ∷ cs ++ rest) (c ∷ cs) ≡ true = word_stands (c ∷ cs) rest in
    let left : drop (length (c ∷ cs)) (c ∷ cs ++ rest) ≡ rest = drop-append_seam (c ∷ cs) rest in
    rw (stands, left) refl

word_later : (word : List ℕ) (c : ℕ) (text rest : List ℕ) → starts_with nat_eq (c ∷ text ++ rest) word ≡ false → past_word word (text ++ rest) ≡ Ok rest → past_word word (c ∷ text ++ rest) ≡ Ok rest
unfolding past_word
word_later word c text rest e h = rw e h

up_to_read : (k : ℕ) (ks : List ℕ) {text : List ℕ} → UpTo (k ∷ ks) text → (rest : List ℕ) → past_word (k ∷ ks) (text ++ rest) ≡ Ok rest
up_to_read k ks grammar.here rest = word_first k ks rest
up_to_read k ks (grammar.later {c = c} {text = text} e u) rest =
    word_later (k ∷ ks) c text rest (still_not (c ∷ text) rest (k ∷ ks) (no_shorter (k ∷ ks) (grammar.later e u)) e) (up_to_read k ks u rest)

comment_end : (text rest : List ℕ) → past_word (codes "-->") (text ++ rest) ≡ Ok rest → comment_at (45 ∷ 45 ∷ text ++ rest) ≡ Ok (Skipped, rest)
unfolding comment_at word_at
comment_end text rest e = rw e refl

instruction_end : (text rest : List ℕ) → past_word (codes "?>") (text ++ rest) ≡ Ok rest → instruction_at (text ++ rest) ≡ Ok (Skipped, rest)
unfolding instruction_at
instruction_end text rest e = rw e refl

by_kind : (bytes rest text : List ℕ) → IsSkipped text → 60 ∷ bytes ≡ text ++ rest → Markups bytes (Ok (Skipped, rest))
by_kind bytes rest _ (grammar.comment {text = text} u) whole =
    let same : bytes ≡ 33 ∷ 45 ∷ 45 ∷ text ++ rest = cc in
    subst (λ (l : List ℕ). Markups l (Ok (Skipped, rest))) (sym same) (sym (comment_end text rest (up_to_read 45 (codes "->") u rest)))
by_kind bytes rest _ (grammar.instruction {text = text} u) whole =
    let same : bytes ≡ 63 ∷ text ++ rest = cc in
    subst (λ (l : List ℕ). Markups l (Ok (Skipped, rest))) (sym same) (sym (instruction_end text rest (up_to_read 63 (codes ">") u rest)))

pub skipped_read : (bytes rest : List ℕ) → ((text : List ℕ) × IsSkipped text × (60 ∷ bytes ≡ text ++ rest)) → Markups bytes (Ok (Skipped, rest))
skipped_read bytes rest (text, is, whole) = by_kind bytes rest text is whole
