-- What is behind a part of a tag is no longer than the bytes that the part was read from.
use Rattle.std.proofs.Common.{◌≡◌, ◌≤◌, ◌+◌, ℕ, zero, suc, Bool, true, false, cond, eqb, ltb, ◌&&◌, ◌||◌, List, [], ◌∷◌, ◌++◌, length, drop, Option, Some, None, Result, Ok, Err, refl, arith}
use Rattle.std.specs.Prelude.{codes, nat_eq, encode_utf8}
use Rattle.std.specs.List.{starts_with}
use Rattle.std.proofs.lemmas.List.{length-drop}
use Rattle.sm_model.specs.declared.tag.Attribute.{Attribute}
use Rattle.sm_tag.specs.declared.grammar.Markup.{Markup}
use Rattle.sm_tag.specs.declared.grammar.Lead.{Lead}
use Rattle.sm_tag.specs.declared.grammar.Lead.TheVariants as lead
use Rattle.sm_model.specs.Digits.{is_digit, decimal_from}
use Rattle.sm_tag.specs.TagBytes.{is_tag_start, is_tag_byte, is_space, is_text, prefix, remaining}
use Rattle.sm_tag.specs.TagParts.{Stop, short, wrong, ◌>>=◌, name_at, byte_at, quote_at, word_at, entity_at, or_else, is_scalar, number_end, number_at, reference_at, piece_at, opening_at, mark_behind, mark_at, has_name}
use Rattle.sm_tag.specs.TagMarkup.{past_word, finish_at, comment_at, instruction_at, lead_inside, lead_stray, lead_outside, lead_at}
use Rattle.sm_tag.specs.TagsRead.{value_by, value_in, attribute_in, attribute_by, tail_by, tail_in, start_in, markup_in}

-- no more than n bytes are behind it
abbrev pub Within : {X : Type 0} → (X → List ℕ) → ℕ → Result X Stop → Type 0
Within f n (Ok x) = length (f x) ≤ n
Within f n (Err e) = Unit {0}

abbrev pub all : List ℕ → List ℕ
all b = b

pub bind : {X Y : Type 0} (f : X → List ℕ) (g : Y → List ℕ) (n m : ℕ) (r : Result X Stop) (k : X → Result Y Stop) → Within f n r → ((x : X) → length (f x) ≤ n → Within g m (k x)) → Within g m (r >>= k)
bind f g n m (Ok x) k h go = go x h
bind f g n m (Err e) k h go = tt

pub grows : {X : Type 0} (f : X → List ℕ) (n m : ℕ) (r : Result X Stop) → n ≤ m → Within f n r → Within f m r
grows f n m (Ok x) le h = omega (arith, h)
grows f n m (Err e) le h = tt

pub choice : {X : Type 0} (f : X → List ℕ) (n : ℕ) (b : Bool) (r s : Result X Stop) → Within f n r → Within f n s → Within f n (cond b r s)
choice f n true r s p q = p
choice f n false r s p q = q

pub behind_le : (p : ℕ → Bool) (b : List ℕ) → length (remaining p b) ≤ length b
behind_le p [] = omega arith
behind_le p (c ∷ cs) = behind_by (p c) (behind_le p cs)
  where
    behind_by : (t : Bool) → length (remaining p cs) ≤ length cs → length (cond t (remaining p cs) (c ∷ cs)) ≤ length (c ∷ cs)
    behind_by true h = omega (arith, h)
    behind_by false h = omega arith

pub parted : (p : ℕ → Bool) (b : List ℕ) → length (prefix p b) + length (remaining p b) ≡ length b
parted p [] = refl
parted p (c ∷ cs) = parted_by (p c) (parted p cs)
  where
    parted_by : (t : Bool) → length (prefix p cs) + length (remaining p cs) ≡ length cs
        → length (cond t (c ∷ prefix p cs) []) + length (cond t (remaining p cs) (c ∷ cs)) ≡ length (c ∷ cs)
    parted_by true h = omega (arith, h)
    parted_by false h = omega arith

pub name_within : (b : List ℕ) (n : ℕ) → length b ≤ n → Within (λ x. x.1) n (name_at b)
unfolding name_at
name_within [] n le = tt
name_within (c ∷ cs) n le = choice (λ x. x.1) n (is_tag_start c) (Ok (prefix is_tag_byte (c ∷ cs), remaining is_tag_byte (c ∷ cs))) (Err wrong) (omega (arith, behind_le is_tag_byte (c ∷ cs), le)) tt

-- one byte fewer
byte_within : (c : ℕ) (b : List ℕ) (n : ℕ) → length b ≤ suc n → Within all n (byte_at c b)
byte_within c [] n le = tt
byte_within c (d ∷ ds) n le = choice all n (eqb d c) (Ok ds) (Err wrong) (omega (arith, le)) tt

quote_within : (b : List ℕ) (n : ℕ) → length b ≤ n → Within (λ x. x.1) n (quote_at b)
unfolding quote_at
quote_within [] n le = tt
quote_within (c ∷ cs) n le = choice (λ x. x.1) n (eqb c 34 || eqb c 39) (Ok (c, cs)) (Err wrong) (omega (arith, le)) tt

word_within : (word b : List ℕ) (n : ℕ) → length b ≤ n → Within all n (word_at word b)
unfolding word_at
word_within word b n le =
    choice all n (starts_with nat_eq b word) (Ok (drop (length word) b)) (cond (starts_with nat_eq word b) (Err short) (Err wrong)) (omega (arith, length-drop (length word) b, le))
    (choice all n (starts_with nat_eq word b) (Err short) (Err wrong) tt tt)

named_within : (word : List ℕ) (c : ℕ) (b : List ℕ) (n : ℕ) → length b ≤ n → Within (λ x. x.1) n (entity_at word c b)
unfolding entity_at
named_within word c b n le = bind all (λ x. x.1) n n (word_at word b) (λ rest. Ok (c, rest)) (word_within word b n le) (λ x h. h)

or_within : {X : Type 0} (f : X → List ℕ) (n : ℕ) (r s : Result X Stop) → Within f n r → Within f n s → Within f n (or_else r s)
or_within f n (Ok x) s p q = p
or_within f n (Err short) s p q = tt
or_within f n (Err wrong) s p q = q

end_within : (digits b : List ℕ) (n : ℕ) → length b ≤ n → Within (λ x. x.1) n (number_end digits b)
unfolding number_end
end_within digits [] n le = tt
end_within [] (c ∷ cs) n le = tt
end_within (d ∷ ds) (c ∷ cs) n le = choice (λ x. x.1) n (eqb c 59 && is_scalar (decimal_from 0 (d ∷ ds))) (Ok (decimal_from 0 (d ∷ ds), cs)) (Err wrong) (omega (arith, le)) tt

number_within : (b : List ℕ) (n : ℕ) → length b ≤ n → Within (λ x. x.1) n (number_at b)
unfolding number_at
number_within b n le =
    bind all (λ x. x.1) n n (byte_at 35 b) (λ rest. number_end (prefix is_digit rest) (remaining is_digit rest)) (byte_within 35 b n (omega (arith, le)))
    (λ rest h. end_within (prefix is_digit rest) (remaining is_digit rest) n (omega (arith, h, behind_le is_digit rest)))

reference_within : (b : List ℕ) (n : ℕ) → length b ≤ n → Within (λ x. x.1) n (reference_at b)
unfolding reference_at
reference_within b n le =
    let w : (word : List ℕ) (c : ℕ) → Within (λ x. x.1) n (entity_at word c b) = λ word c. named_within word c b n le in
    let f : ℕ × List ℕ → List ℕ = λ x. x.1 in
    or_within f n _ (number_at b)
    (or_within f n _ _ (or_within f n _ _ (or_within f n _ _ (or_within f n _ _ (w (codes "lt;") 60) (w (codes "gt;") 62)) (w (codes "amp;") 38)) (w (codes "quot;") 34)) (w (codes "apos;") 39))
    (number_within b n le)

pub piece_within : (q : ℕ) (b : List ℕ) (n : ℕ) → length b ≤ suc n → Within (λ x. x.2) n (piece_at q b)
unfolding piece_at
piece_within q [] n le = tt
piece_within q (c ∷ cs) n le =
    let f : Bool × List ℕ × List ℕ → List ℕ = λ x. x.2 in
    let s : length cs ≤ n = omega (arith, le) in
    choice f n (eqb c q) (Ok (false, [], cs)) _ s
    (choice f n (eqb c 60) (Err wrong) _ tt
    (choice f n (eqb c 38) (reference_at cs >>= λ x. Ok (true, encode_utf8 x.0, x.1)) (Ok (true, c ∷ [], cs))
    (bind (λ x. x.1) f n n (reference_at cs) (λ x. Ok (true, encode_utf8 x.0, x.1)) (reference_within cs n s) (λ x h. h))
    s))

-- an attribute's opening takes at least its `=`
pub opening_within : (b : List ℕ) (n : ℕ) → length b ≤ suc n → Within (λ x. x.2) n (opening_at b)
unfolding opening_at
opening_within b n le =
    bind (λ x. x.1) (λ x. x.2) (suc n) n (name_at b) _ (name_within b (suc n) le)
    (λ name h. bind all (λ x. x.2) n n (byte_at 61 (remaining is_space name.1)) _ (byte_within 61 (remaining is_space name.1) n (omega (arith, h, behind_le is_space name.1)))
    (λ rest k. bind (λ x. x.1) (λ x. x.2) n n (quote_at (remaining is_space rest)) _ (quote_within (remaining is_space rest) n (omega (arith, k, behind_le is_space rest))) (λ quote m. m)))

value_by_within : (n : ℕ) (text : List ℕ) (r : Result (Bool × List ℕ × List ℕ) Stop) (go : List ℕ → List ℕ → Result (List ℕ × List ℕ) Stop) → Within (λ x. x.2) n r
    → ((t rest : List ℕ) → length rest ≤ n → Within (λ x. x.1) n (go t rest)) → Within (λ x. x.1) n (value_by text r go)
value_by_within n text (Err e) go h k = tt
value_by_within n text (Ok (false, piece, rest)) go h k = h
value_by_within n text (Ok (true, piece, rest)) go h k = k (text ++ piece) rest h

pub value_within : (m q : ℕ) (text b : List ℕ) (n : ℕ) → length b ≤ n → Within (λ x. x.1) n (value_in m q text b)
unfolding value_in
value_within zero q text b n le = tt
value_within (suc m) q text b n le =
    value_by_within n text (piece_at q b) (λ more rest. value_in m q more rest) (piece_within q b n (omega (arith, le))) (λ t rest h. value_within m q t rest n h)

pub attribute_within : (m : ℕ) (b : List ℕ) (n : ℕ) → length b ≤ suc n → Within (λ x. x.1) n (attribute_in m b)
unfolding attribute_in
attribute_within m b n le =
    bind (λ x. x.2) (λ x. x.1) n n (opening_at b) _ (opening_within b n le)
    (λ o h. bind (λ x. x.1) (λ x. x.1) n n (value_in m o.1 [] o.2) _ (value_within m o.1 [] o.2 n h) (λ x k. k))

mark_space : (spaced : Bool) (b : List ℕ) (n : ℕ) → length b ≤ n → Within (λ (x : Option Bool × List ℕ). x.1) n (mark_behind spaced b)
mark_space spaced [] n le = tt
mark_space spaced (c ∷ cs) n le =
    let f : Option Bool × List ℕ → List ℕ = λ x. x.1 in
    choice f n (eqb c 62) (Ok (Some false, cs)) _ (omega (arith, le))
    (choice f n (eqb c 47) (byte_at 62 cs >>= λ rest. Ok (Some true, rest)) _
    (bind all f n n (byte_at 62 cs) (λ rest. Ok (Some true, rest)) (byte_within 62 cs n (omega (arith, le))) (λ x h. h))
    (choice f n spaced (Ok (None, c ∷ cs)) (Err wrong) le tt))

pub mark_within : (b : List ℕ) (n : ℕ) → length b ≤ n → Within (λ x. x.1) n (mark_at b)
unfolding mark_at
mark_within b n le = mark_space (ltb (length (remaining is_space b)) (length b)) (remaining is_space b) n (omega (arith, le, behind_le is_space b))

attribute_by_within : (n : ℕ) (seen : List Attribute) (r : Result (Attribute × List ℕ) Stop) (go : List Attribute → List ℕ → Result (List Attribute × Bool × List ℕ) Stop) → Within (λ x. x.1) n r
    → ((s : List Attribute) (rest : List ℕ) → length rest ≤ n → Within (λ x. x.2) n (go s rest)) → Within (λ x. x.2) n (attribute_by seen r go)
attribute_by_within n seen (Err e) go h k = tt
attribute_by_within n seen (Ok (a, more)) go h k = choice (λ x. x.2) n (has_name a.name seen) (Err wrong) (go (seen ++ a ∷ []) more) tt (k (seen ++ a ∷ []) more h)

tail_by_within : (m n : ℕ) (seen : List Attribute) (r : Result (Option Bool × List ℕ) Stop) (go : List Attribute → List ℕ → Result (List Attribute × Bool × List ℕ) Stop) → Within (λ x. x.1) n r
    → ((s : List Attribute) (rest : List ℕ) → length rest ≤ n → Within (λ x. x.2) n (go s rest)) → Within (λ x. x.2) n (tail_by m seen r go)
tail_by_within m n seen (Err e) go h k = tt
tail_by_within m n seen (Ok (Some empty, rest)) go h k = h
tail_by_within m n seen (Ok (None, rest)) go h k = attribute_by_within n seen (attribute_in m rest) go (attribute_within m rest n (omega (arith, h))) k

pub tail_within : (m : ℕ) (seen : List Attribute) (b : List ℕ) (n : ℕ) → length b ≤ n → Within (λ x. x.2) n (tail_in m seen b)
unfolding tail_in
tail_within zero seen b n le = tt
tail_within (suc m) seen b n le =
    tail_by_within (suc m) n seen (mark_at b) (λ more rest. tail_in m more rest) (mark_within b n le) (λ s rest h. tail_within m s rest n h)

start_within : (m : ℕ) (b : List ℕ) (n : ℕ) → length b ≤ n → Within (λ x. x.1) n (start_in m b)
unfolding start_in
start_within m b n le =
    bind (λ x. x.1) (λ x. x.1) n n (name_at b) _ (name_within b n le)
    (λ x h. bind (λ y. y.2) (λ y. y.1) n n (tail_in m [] x.1) _ (tail_within m [] x.1 n h) (λ y k. k))

past_within : (word b : List ℕ) (n : ℕ) → length b ≤ n → Within all n (past_word word b)
unfolding past_word
past_within word [] n le = tt
past_within word (c ∷ cs) n le =
    choice all n (starts_with nat_eq (c ∷ cs) word) (Ok (drop (length word) (c ∷ cs))) (past_word word cs) (omega (arith, length-drop (length word) (c ∷ cs), le)) (past_within word cs n (omega (arith, le)))

finish_within : (b : List ℕ) (n : ℕ) → length b ≤ n → Within (λ x. x.1) n (finish_at b)
unfolding finish_at
finish_within b n le =
    bind (λ x. x.1) (λ x. x.1) n n (name_at b) _ (name_within b n le)
    (λ name h. bind all (λ x. x.1) n n (byte_at 62 (remaining is_space name.1)) _ (byte_within 62 (remaining is_space name.1) n (omega (arith, h, behind_le is_space name.1))) (λ rest k. k))

comment_within : (b : List ℕ) (n : ℕ) → length b ≤ n → Within (λ x. x.1) n (comment_at b)
unfolding comment_at
comment_within b n le =
    bind all (λ x. x.1) n n (word_at (codes "--") b) _ (word_within (codes "--") b n le)
    (λ rest h. bind all (λ x. x.1) n n (past_word (codes "-->") rest) _ (past_within (codes "-->") rest n h) (λ more k. k))

instruction_within : (b : List ℕ) (n : ℕ) → length b ≤ n → Within (λ x. x.1) n (instruction_at b)
unfolding instruction_at
instruction_within b n le = bind all (λ x. x.1) n n (past_word (codes "?>") b) _ (past_within (codes "?>") b n le) (λ more k. k)

pub markup_within : (m : ℕ) (b : List ℕ) (n : ℕ) → length b ≤ n → Within (λ x. x.1) n (markup_in m b)
unfolding markup_in
markup_within m [] n le = tt
markup_within m (c ∷ cs) n le =
    let f : Markup × List ℕ → List ℕ = λ x. x.1 in
    let s : length cs ≤ n = omega (arith, le) in
    choice f n (eqb c 63) (instruction_at cs) _ (instruction_within cs n s)
    (choice f n (eqb c 33) (comment_at cs) _ (comment_within cs n s)
    (choice f n (eqb c 47) (finish_at cs) (start_in m (c ∷ cs)) (finish_within cs n s) (start_within m (c ∷ cs) n le)))

-- a text and a tag take at least one byte
abbrev pub LeadWithin : ℕ → Lead × ℕ × List ℕ → Type 0
LeadWithin n (lead.Tag, left, rest) = suc (length rest) ≤ n
LeadWithin n (lead.Run, left, rest) = suc (length rest) ≤ n
LeadWithin n (lead.Ended, left, rest) = Unit {0}
LeadWithin n (lead.Lost, left, rest) = Unit {0}
LeadWithin n (lead.Stray, left, rest) = Unit {0}

inside_within : (n : ℕ) (b run rest : List ℕ) → length run + length rest ≤ n → LeadWithin n (lead_inside b run rest)
inside_within n b run [] le = tt
inside_within n b [] (c ∷ cs) le = omega (arith, le)
inside_within n b (r ∷ rs) (c ∷ cs) le = omega (arith, le)

stray_within : (n : ℕ) (b : List ℕ) → LeadWithin n (lead_stray b)
stray_within n [] = tt
stray_within n (c ∷ cs) = tt

outside_within : (n : ℕ) (b : List ℕ) → length b ≤ n → LeadWithin n (lead_outside b)
outside_within n [] le = tt
outside_within n (c ∷ cs) le = outside_by (eqb c 60)
  where
    outside_by : (t : Bool) → LeadWithin n (cond t (lead.Tag, length (c ∷ cs), cs) (lead_stray (remaining is_text (c ∷ cs))))
    outside_by true = omega (arith, le)
    outside_by false = stray_within n (remaining is_text (c ∷ cs))

pub lead_within : (inside : Bool) (b : List ℕ) (n : ℕ) → length b ≤ n → LeadWithin n (lead_at inside b)
unfolding lead_at
lead_within true b n le = inside_within n b (prefix is_text b) (remaining is_text b) (omega (arith, parted is_text b, le))
lead_within false b n le = outside_within n (remaining is_space b) (omega (arith, behind_le is_space b, le))
