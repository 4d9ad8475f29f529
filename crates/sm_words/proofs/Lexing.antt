-- What a word is to `clap`, and what it is here.
use Rattle.std.proofs.Common.{◌≡◌, ◌≢◌, ◌∙◌, ◌+◌, ◌==◌, ◌&&◌, ◌||◌, ◌⊎◌, inl, inr, ℕ, Bool, true, false, cond, not, eqb, suc, List, [], ◌∷◌, take, drop, Option, Some, None, codes, refl, sym, ap, subst, arith}
use Rattle.std.specs.Option.{option_map, option_or}
use Rattle.std.specs.List.{find, position_or_len}
use Rattle.std.specs.Str.{bytes_eq}
use Rattle.std.proofs.lemmas.Bool.{ne_eqb, or_parts}
use Rattle.std.proofs.lemmas.Bool.Decides.{eqb_tells}
use Rattle.clap.specs.Lexer.{has_byte, long_of, name_and_value, short_of}
use Rattle.sm_words.specs.declared.option.Name.{Name}
use Rattle.sm_words.specs.declared.option.Name.TheVariants.{Port, Ladder, Turns, Bind, Journal, Players, From, Count, Tries, Refresh, Rounds}
use Rattle.sm_words.specs.Options.{text_of}
use Rattle.sm_words.specs.Words.{Text, behind, first_given, given_by, is_dashed, value_in}
use Rattle.sm_words.specs.Clapped.{is_plain}

-- ---- the sorts of words

-- a word that begins with no dash
pub record IsOther (word : Text) : Type 0 where
  pub undashed : is_dashed word ≡ false
  pub no_long : long_of word ≡ None
  pub no_short : short_of word ≡ None
  pub no_dashes : bytes_eq word (45 ∷ 45 ∷ []) ≡ false
  pub plain : is_plain word ≡ true

-- a word that begins with a dash, and isn't plain
pub record IsSingle (word : Text) : Type 0 where
  pub dashed : is_dashed word ≡ true
  pub not_plain : is_plain word ≡ false
  pub not_dashes : bytes_eq word (45 ∷ 45 ∷ []) ≡ false
  pub lacks : (id : Text) → behind (45 ∷ 45 ∷ id) word ≡ None

-- with the dashes, or the name and the value, that make up the word
pub data Sort (word : Text) : Type 0 where
  dashes : word ≡ 45 ∷ 45 ∷ [] → Sort word
  long : (x : ℕ) (xs : Text) → word ≡ 45 ∷ 45 ∷ x ∷ xs → Sort word
  single : IsSingle word → Sort word
  other : IsOther word → Sort word

other_is : (c : ℕ) (cs : Text) → (45 == c) ≡ false → (c == 45) ≡ false → IsOther (c ∷ cs)
other_is c cs f e = record { undashed = e; no_long = rw e refl; no_short = rw e refl; no_dashes = rw e refl; plain = rw (f, e) refl }

single_is : (c : ℕ) (cs : Text) → (45 == c) ≡ false → (c == 45) ≡ false → IsSingle (45 ∷ c ∷ cs)
single_is c cs e f = record { dashed = refl; not_plain = rw e refl; not_dashes = rw f refl; lacks = λ id. rw e refl }

other_byte : (a b : ℕ) → (a ≢ b) → (b == a) ≡ false
other_byte a b ne = ne_eqb b a (λ e. ne (sym e))

-- behind one dash
behind_dash : (word : Text) → Sort (45 ∷ word)
behind_dash [] = single (record { dashed = refl; not_plain = refl; not_dashes = refl; lacks = λ id. refl })
behind_dash (c ∷ cs) =
    elim (eqb_tells 45 c) [
      | inl same ↦ subst (λ (d : ℕ). Sort (45 ∷ d ∷ cs)) same.1 (two cs)
      | inr differs ↦ single (single_is c cs differs.0 (other_byte 45 c differs.1))
    ]
  where
    two : (rest : Text) → Sort (45 ∷ 45 ∷ rest)
    two [] = dashes refl
    two (x ∷ xs) = long x xs refl

pub sort_of : (word : Text) → Sort word
sort_of [] = other (record { undashed = refl; no_long = refl; no_short = refl; no_dashes = refl; plain = refl })
sort_of (c ∷ cs) =
    elim (eqb_tells 45 c) [
      | inl same ↦ subst (λ (d : ℕ). Sort (d ∷ cs)) same.1 (behind_dash cs)
      | inr differs ↦ other (other_is c cs differs.0 (other_byte 45 c differs.1))
    ]

-- ---- the name and the value

abbrev is_equals : ℕ → Bool
is_equals c = c == 61

named_here : (c : ℕ) (cs : Text) → (c == 61) ≡ true → name_and_value (c ∷ cs) ≡ ([], Some cs)
named_here c cs e = rw e refl

named_later : (c : ℕ) (cs : Text) → (c == 61) ≡ false → name_and_value (c ∷ cs) ≡ (c ∷ (name_and_value cs).0, (name_and_value cs).1)
named_later c cs e =
    let k = position_or_len is_equals cs in
    let one : 1 + k ≡ suc k = omega arith in
    let two : suc k + 1 ≡ suc (k + 1) = omega arith in
    let at : position_or_len is_equals (c ∷ cs) ≡ suc k = ap (λ (b : Bool). cond (not b) (1 + k) 0) e ∙ one in
    ap (λ (n : ℕ). (take n (c ∷ cs), cond (has_byte 61 (c ∷ cs)) (Some (drop (n + 1) (c ∷ cs))) None)) at
    ∙ ap (λ (b : Bool). (c ∷ take k cs, cond (b || has_byte 61 cs) (Some (drop (suc k + 1) (c ∷ cs))) None)) e
    ∙ ap (λ (n : ℕ). (c ∷ take k cs, cond (has_byte 61 cs) (Some (drop n (c ∷ cs))) None)) two

abbrev by_name : Text → Text × Option Text → Option (Option Text)
by_name id p = cond (bytes_eq id p.0) (Some p.1) None

other_name : (b c : ℕ) (bs cs : Text) → eqb b c ≡ false → (t : Bool) → (c == 61) ≡ t → by_name (b ∷ bs) (name_and_value (c ∷ cs)) ≡ None
other_name b c bs cs differs true e = ap (by_name (b ∷ bs)) (named_here c cs e)
other_name b c bs cs differs false e =
    ap (by_name (b ∷ bs)) (named_later c cs e)
    ∙ ap (λ (t : Bool). cond (t && bytes_eq bs (name_and_value cs).0) (Some (name_and_value cs).1) None) differs

value_next : (b c : ℕ) (bs cs : Text) → (b == 61) ≡ false → ((eqb b c ≡ true) × (b ≡ c)) ⊎ ((eqb b c ≡ false) × (b ≢ c))
    → value_in (behind bs cs) ≡ by_name bs (name_and_value cs) → value_in (behind (b ∷ bs) (c ∷ cs)) ≡ by_name (b ∷ bs) (name_and_value (c ∷ cs))
value_next b c bs cs none (inl same) rest =
    ap (λ (t : Bool). value_in (cond t (behind bs cs) None)) same.0
    ∙ rest
    ∙ sym (ap (by_name (b ∷ bs)) (named_later c cs (subst (λ (d : ℕ). (d == 61) ≡ false) same.1 none))
    ∙ ap (λ (t : Bool). cond (t && bytes_eq bs (name_and_value cs).0) (Some (name_and_value cs).1) None) same.0)
value_next b c bs cs none (inr differs) rest =
    ap (λ (t : Bool). value_in (cond t (behind bs cs) None)) differs.0 ∙ sym (other_name b c bs cs differs.0 (c == 61) refl)

-- a name with no `=` in it stands before the first one, or is the whole
value_found : (id ds : Text) → has_byte 61 id ≡ false → value_in (behind id ds) ≡ by_name id (name_and_value ds)
value_found [] [] none = refl
value_found [] (c ∷ cs) none =
    elim (eqb_tells 61 c) [
      | inl same ↦ subst (λ (d : ℕ). value_in (behind [] (d ∷ cs)) ≡ by_name [] (name_and_value (d ∷ cs))) same.1 refl
      | inr differs ↦
          ap (λ (b : Bool). option_map (λ (v : Text). Some v) (cond b (Some cs) None)) differs.0
          ∙ sym (ap (by_name []) (named_later c cs (other_byte 61 c differs.1)))
    ]
value_found (b ∷ bs) [] none = refl
value_found (b ∷ bs) (c ∷ cs) none =
    let parts = or_parts (b == 61) (has_byte 61 bs) none in
    value_next b c bs cs parts.0 (eqb_tells b c) (value_found bs cs parts.1)

-- ---- the options

-- as `clap` names it
abbrev pub id_of : Name → Text
id_of Port = codes "port"
id_of Ladder = codes "ladder"
id_of Turns = codes "turns"
id_of Bind = codes "bind"
id_of Journal = codes "journal"
id_of Players = codes "players"
id_of From = codes "from"
id_of Count = codes "count"
id_of Tries = codes "tries"
id_of Refresh = codes "refresh"
id_of Rounds = codes "rounds"

text_is : (o : Name) → text_of o ≡ 45 ∷ 45 ∷ id_of o
text_is Port = refl
text_is Ladder = refl
text_is Turns = refl
text_is Bind = refl
text_is Journal = refl
text_is Players = refl
text_is From = refl
text_is Count = refl
text_is Tries = refl
text_is Refresh = refl
text_is Rounds = refl

no_equals : (o : Name) → has_byte 61 (id_of o) ≡ false
no_equals Port = refl
no_equals Ladder = refl
no_equals Turns = refl
no_equals Bind = refl
no_equals Journal = refl
no_equals Players = refl
no_equals From = refl
no_equals Count = refl
no_equals Tries = refl
no_equals Refresh = refl
no_equals Rounds = refl

-- the first of these options with that name
abbrev pub named : List Name → Text → Option Name
named options name = find (λ o. bytes_eq (id_of o) name) options

abbrev pub with_value : Option Text → Option Name → Option (Name × Option Text)
with_value value = option_map (λ o. (o, value))

one_given : (o : Name) (ds : Text) → given_by o (45 ∷ 45 ∷ ds) ≡ by_name (id_of o) (name_and_value ds)
unfolding given_by
one_given o ds =
    ap (λ (t : Text). value_in (behind t (45 ∷ 45 ∷ ds))) (text_is o) ∙ value_found (id_of o) ds (no_equals o)

pub given_named : (options : List Name) (ds : Text) → first_given options (45 ∷ 45 ∷ ds) ≡ with_value (name_and_value ds).1 (named options (name_and_value ds).0)
given_named [] ds = refl
given_named (o ∷ os) ds =
    ap (λ (g : Option (Option Text)). option_or (option_map (λ how. (o, how)) g) (first_given os (45 ∷ 45 ∷ ds))) (one_given o ds)
    ∙ ap (λ r. option_or (option_map (λ how. (o, how)) (by_name (id_of o) (name_and_value ds))) r) (given_named os ds)
    ∙ go (bytes_eq (id_of o) (name_and_value ds).0)
  where
    go : (b : Bool)
        → option_or (option_map (λ how. (o, how)) (cond b (Some (name_and_value ds).1) None)) (with_value (name_and_value ds).1 (named os (name_and_value ds).0))
        ≡ with_value (name_and_value ds).1 (cond b (Some o) (named os (name_and_value ds).0))
    go true = refl
    go false = refl

single_given : (o : Name) (word : Text) → IsSingle word → given_by o word ≡ None
unfolding given_by
single_given o word h = ap (λ (t : Text). value_in (behind t word)) (text_is o) ∙ ap value_in (h.lacks (id_of o))

-- a word with one dash gives none
pub single_gives_none : (options : List Name) (word : Text) → IsSingle word → first_given options word ≡ None
single_gives_none [] word h = refl
single_gives_none (o ∷ os) word h =
    ap (λ (g : Option (Option Text)). option_or (option_map (λ how. (o, how)) g) (first_given os word)) (single_given o word h) ∙ single_gives_none os word h
