-- Tags are read as they are written: plain values in quotes, one space before each attribute.
use Rattle.std.proofs.Common.{◌≡◌, ℕ, Bool, true, false, not, eqb, ltb, List, [], ◌∷◌, ◌++◌, length, Some, None, Ok, refl, ap, sym, subst, append_assoc, arith}
use Rattle.std.specs.List.{list_all}
use Rattle.std.proofs.lemmas.Bool.{and_parts, eqb-true, lt-ltb}
use Rattle.sm_model.specs.declared.tag.Attribute.{Attribute}
use Rattle.sm_tag.specs.declared.grammar.Markup.TheVariants as markup
use Rattle.sm_tag.specs.TagBytes.{is_tag_start, is_tag_byte, prefix, remaining}
use Rattle.sm_tag.specs.TagParts.{piece_at, Values, closed, goes_on, name_at, opening_at, quote_at, AttributeAt, opened, mark_at, Tails, ended, another}
use Rattle.sm_tag.specs.TagMarkup.{Starts, named, finish_at}
use Rattle.sm_tag.specs.TagText.{is_plain, IsTagName, closing, attributes_then, AreWritten}

denied : (b : Bool) → not b ≡ true → b ≡ false
denied true e = cc
denied false e = refl

plain_piece : (c : ℕ) (cs : List ℕ) → is_plain c ≡ true → piece_at 34 (c ∷ cs) ≡ Ok (true, c ∷ [], cs)
unfolding piece_at
plain_piece c cs plain =
    let first = and_parts (not (eqb c 34)) _ plain in
    let second = and_parts (not (eqb c 60)) _ first.1 in
    let quote : eqb c 34 ≡ false = denied (eqb c 34) first.0 in
    let angle : eqb c 60 ≡ false = denied (eqb c 60) second.0 in
    let ampersand : eqb c 38 ≡ false = denied (eqb c 38) second.1 in
    rw (quote, angle, ampersand) refl

quote_piece : (rest : List ℕ) → piece_at 34 (34 ∷ rest) ≡ Ok (false, [], rest)
unfolding piece_at
quote_piece rest = refl

Values-plain : (v : List ℕ) → list_all is_plain v ≡ true → (text rest : List ℕ) → Values 34 text (v ++ 34 ∷ rest) (Ok (text ++ v, rest))
Values-plain [] plain text rest = closed (quote_piece rest)
Values-plain (c ∷ v) plain text rest =
    let parts = and_parts (is_plain c) (list_all is_plain v) plain in
    let P : List ℕ → Type 0 = λ t. Values 34 text (c ∷ v ++ 34 ∷ rest) (Ok (t, rest)) in
    subst P (append_assoc text (c ∷ []) v) (goes_on (plain_piece c (v ++ 34 ∷ rest) parts.0) (Values-plain v parts.1 (text ++ c ∷ []) rest))

pub front_until : (p : ℕ → Bool) (xs : List ℕ) (c : ℕ) (more : List ℕ) → list_all p xs ≡ true → p c ≡ false → prefix p (xs ++ c ∷ more) ≡ xs
front_until p [] c more all stop = rw stop refl
front_until p (x ∷ xs) c more all stop =
    let h = and_parts (p x) (list_all p xs) all in
    let rest = front_until p xs c more h.1 stop in
    let goes : p x ≡ true = h.0 in
    rw (goes, rest) refl

pub behind_until : (p : ℕ → Bool) (xs : List ℕ) (c : ℕ) (more : List ℕ) → list_all p xs ≡ true → p c ≡ false → remaining p (xs ++ c ∷ more) ≡ c ∷ more
behind_until p [] c more all stop = rw stop refl
behind_until p (x ∷ xs) c more all stop =
    let h = and_parts (p x) (list_all p xs) all in
    let goes : p x ≡ true = h.0 in
    rw goes (behind_until p xs c more h.1 stop)

pub name_again : (n : List ℕ) (stop : ℕ) (rest : List ℕ) → IsTagName n → is_tag_byte stop ≡ false → name_at (n ++ stop ∷ rest) ≡ Ok (n, stop ∷ rest)
unfolding name_at
name_again [] stop rest is ends = absurd is
name_again (c ∷ cs) stop rest is ends =
    let others = (and_parts (is_tag_byte c) (list_all is_tag_byte cs) is.1).1 in
    let f : prefix is_tag_byte (cs ++ stop ∷ rest) ≡ cs = front_until is_tag_byte cs stop rest others ends in
    let b : remaining is_tag_byte (cs ++ stop ∷ rest) ≡ stop ∷ rest = behind_until is_tag_byte cs stop rest others ends in
    let s : is_tag_start c ≡ true = is.0 in
    rw (s, f, b) refl

opening_again : (n rest : List ℕ) → IsTagName n → opening_at (n ++ 61 ∷ 34 ∷ rest) ≡ Ok (n, 34, rest)
unfolding opening_at quote_at
opening_again n rest is = rw (name_again n 61 (34 ∷ rest) is refl) refl

attribute_again : (a : Attribute) (rest : List ℕ) → IsTagName a.name → list_all is_plain a.value ≡ true → AttributeAt (a.name ++ (61 ∷ 34 ∷ (a.value ++ 34 ∷ rest))) (Ok (a, rest))
attribute_again a rest is plain = opened (opening_again a.name (a.value ++ 34 ∷ rest) is) (Values-plain a.value plain [] rest)

-- a byte of a class isn't one that the class lacks
pub not_of : (p : ℕ → Bool) (c k : ℕ) → p c ≡ true → p k ≡ false → eqb c k ≡ false
not_of p c k is other = tested (eqb c k) refl
  where
    tested : (b : Bool) → eqb c k ≡ b → eqb c k ≡ false
    tested false e = e
    tested true e =
        let same = eqb-true c k e in
        let here : p k ≡ true = rw same at is in
        cc

-- a name behind one space
mark_name : (n rest : List ℕ) → IsTagName n → mark_at (32 ∷ n ++ rest) ≡ Ok (None, n ++ rest)
unfolding mark_at
mark_name [] rest is = absurd is
mark_name (c ∷ cs) rest is =
    let space : eqb c 32 ≡ false = not_of is_tag_start c 32 is.0 refl in
    let tab : eqb c 9 ≡ false = not_of is_tag_start c 9 is.0 refl in
    let return : eqb c 13 ≡ false = not_of is_tag_start c 13 is.0 refl in
    let feed : eqb c 10 ≡ false = not_of is_tag_start c 10 is.0 refl in
    let angle : eqb c 62 ≡ false = not_of is_tag_start c 62 is.0 refl in
    let slash : eqb c 47 ≡ false = not_of is_tag_start c 47 is.0 refl in
    let shorter : ltb (length (c ∷ cs ++ rest)) (length (32 ∷ c ∷ cs ++ rest)) ≡ true = lt-ltb _ _ (omega arith) in
    rw (space, tab, return, feed, angle, slash, shorter) refl

mark_end : (empty : Bool) (rest : List ℕ) → mark_at (closing empty rest) ≡ Ok (Some empty, rest)
unfolding mark_at
mark_end true rest = refl
mark_end false rest = refl

pub append_nil : {A : Type 0} (xs : List A) → xs ++ [] ≡ xs
append_nil [] = refl
append_nil (x ∷ xs) = ap (λ l. x ∷ l) (append_nil xs)

pub append_push : (xs : List Attribute) (a : Attribute) (ys : List Attribute) → (xs ++ a ∷ []) ++ ys ≡ xs ++ a ∷ ys
append_push [] a ys = refl
append_push (x ∷ xs) a ys = ap (λ l. x ∷ l) (append_push xs a ys)

Tails-again : (others seen : List Attribute) (empty : Bool) (rest : List ℕ) → AreWritten seen others → Tails seen (attributes_then others (closing empty rest)) (Ok (seen ++ others, empty, rest))
Tails-again [] seen empty rest are =
    let P : List Attribute → Type 0 = λ l. Tails seen (closing empty rest) (Ok (l, empty, rest)) in
    subst P (sym (append_nil seen)) (ended (mark_end empty rest))
Tails-again (a ∷ others) seen empty rest are =
    let P : List Attribute → Type 0 = λ l. Tails seen (attributes_then (a ∷ others) (closing empty rest)) (Ok (l, empty, rest)) in
    let remaining = attributes_then others (closing empty rest) in
    subst P (append_push seen a others) (another (mark_name a.name (61 ∷ 34 ∷ a.value ++ 34 ∷ remaining) are.0) (attribute_again a remaining are.0 are.1) are.2 (Tails-again others (seen ++ a ∷ []) empty rest are.3))

before_attributes : (n : List ℕ) (others : List Attribute) (empty : Bool) (rest : List ℕ) → IsTagName n → name_at (n ++ attributes_then others (closing empty rest)) ≡ Ok (n, attributes_then others (closing empty rest))
before_attributes n [] true rest is = name_again n 47 (62 ∷ rest) is refl
before_attributes n [] false rest is = name_again n 62 rest is refl
before_attributes n (a ∷ others) empty rest is = name_again n 32 _ is refl

-- a start tag that is written is read
pub Starts-again : (n : List ℕ) (others : List Attribute) (empty : Bool) (rest : List ℕ) → IsTagName n → AreWritten [] others → Starts (n ++ attributes_then others (closing empty rest)) (Ok (markup.Start n others empty, rest))
Starts-again n others empty rest is are = named (before_attributes n others empty rest is) (Tails-again others [] empty rest are)

-- an end tag that is written is read
pub finish-again : (n rest : List ℕ) → IsTagName n → finish_at (n ++ 62 ∷ rest) ≡ Ok (markup.Finish n, rest)
unfolding finish_at
finish-again n rest is = rw (name_again n 62 rest is refl) refl
