-- What `clap` finds of the words, beside what is read of them.
use Rattle.std.proofs.Common.{◌≡◌, ◌∙◌, ◌&&◌, ◌||◌, ◌==◌, ◌⊎◌, inl, inr, ℕ, Bool, true, false, cond, not, List, [], ◌∷◌, ◌++◌, find, Option, Some, None, codes, refl, sym, ap, ap₂, subst, true≢false}
use Rattle.std.specs.Prelude.{⊤}
use Rattle.std.specs.Option.{option_and_then, option_map, option_or}
use Rattle.std.specs.Str.{bytes_eq}
use Rattle.std.proofs.lemmas.Bool.{eqb-true, eq-eqb, or_parts}
use Rattle.std.proofs.lemmas.List.{append-nil}
use Rattle.std.proofs.lemmas.Slice.Eq.{bytes_eq-Decides}
use Rattle.clap.specs.Faults.{use_fault}
use Rattle.clap.specs.Kinds.{or_else}
use Rattle.clap.specs.declared.error.kind.ErrorKind.TheVariants as kind
use Rattle.clap.specs.Walk.{Row, at_row, has_row, more_values, reading_by, stronger, used, with_values, without}
use Rattle.clap.specs.declared.builder.value_parser.Reading.{Reading}
use Rattle.clap.specs.declared.parser.matches.ValueSource.{ValueSource}
use Rattle.clap.specs.declared.parser.matches.ValueSource.TheVariants.{CommandLine}
use Rattle.sm_words.specs.declared.option.Name.{Name}
use Rattle.sm_words.specs.declared.option.Name.TheVariants.{Port, Ladder, Turns, Bind, Journal, Players, From, Count, Tries, Refresh, Rounds}
use Rattle.sm_words.specs.declared.line.Place.{Place}
use Rattle.sm_words.specs.declared.line.Place.TheVariants.{Free, Behind, Bare}
use Rattle.sm_words.specs.Options.{has_value, is_same, number_of}
use Rattle.sm_words.specs.Words.{Text, Read, at_most_one, first_given, given_by, goes_on, is_dashed, joined, nothing, one_option, one_word, option_word, read_from, value_of, values_of, word_at}
use Rattle.sm_words.proofs.Lexing.{id_of, named}
use Rattle.sm_words.proofs.Reading.{joined-assoc, joined-nothing}
use Rattle.sm_words.proofs.Rows.{Rows, option_read, option_used, passes, rows_from, rule_for, values_for, word_used, words_part}

-- ---- names are one as their texts are

abbrev all_names : List Name
all_names = Port ∷ Ladder ∷ Turns ∷ Bind ∷ Journal ∷ Players ∷ From ∷ Count ∷ Tries ∷ Refresh ∷ Rounds ∷ []

abbrev at_number : ℕ → Option Name
at_number n = find (λ o. number_of o == n) all_names

number_found : (o : Name) → at_number (number_of o) ≡ Some o
number_found Port = refl
number_found Ladder = refl
number_found Turns = refl
number_found Bind = refl
number_found Journal = refl
number_found Players = refl
number_found From = refl
number_found Count = refl
number_found Tries = refl
number_found Refresh = refl
number_found Rounds = refl

name_found : (o : Name) → named all_names (id_of o) ≡ Some o
name_found Port = refl
name_found Ladder = refl
name_found Turns = refl
name_found Bind = refl
name_found Journal = refl
name_found Players = refl
name_found From = refl
name_found Count = refl
name_found Tries = refl
name_found Refresh = refl
name_found Rounds = refl

id_same : (o : Name) → bytes_eq (id_of o) (id_of o) ≡ true
id_same Port = refl
id_same Ladder = refl
id_same Turns = refl
id_same Bind = refl
id_same Journal = refl
id_same Players = refl
id_same From = refl
id_same Count = refl
id_same Tries = refl
id_same Refresh = refl
id_same Rounds = refl

some_same : {A : Type 0} (a b : A) → Some a ≡ Some b → a ≡ b
some_same a b e = cc

pub names_same : (a b : Name) → is_same a b ≡ true → a ≡ b
names_same a b e = some_same a b (sym (number_found a) ∙ ap at_number (eqb-true (number_of a) (number_of b) e) ∙ number_found b)

pub ids_same : (a b : Name) → bytes_eq (id_of a) (id_of b) ≡ true → a ≡ b
ids_same a b e = some_same a b (sym (name_found a) ∙ ap (named all_names) ((bytes_eq-Decides (id_of a) (id_of b)).0 e) ∙ name_found b)

-- the tests are one
pub ids_as_names : (a b : Name) (t : Bool) → is_same a b ≡ t → bytes_eq (id_of a) (id_of b) ≡ t
ids_as_names a b true e = ap (λ (o : Name). bytes_eq (id_of a) (id_of o)) (sym (names_same a b e)) ∙ id_same a
ids_as_names a b false e = go (bytes_eq (id_of a) (id_of b)) refl
  where
    go : (u : Bool) → bytes_eq (id_of a) (id_of b) ≡ u → bytes_eq (id_of a) (id_of b) ≡ false
    go false f = f
    go true f = absurd (true≢false (sym (eq-eqb (number_of a) (number_of b) (ap number_of (ids_same a b f))) ∙ e))

-- ---- rows

abbrev pub cell : Row → List Text × Reading
cell r = (r.values, r.reading)

-- the values of the row with an id, and how they are read
abbrev pub seen : Text → Rows → Option (List Text × Reading)
seen id rows = option_map cell (find (λ (r : Row). bytes_eq r.id id) rows)

abbrev pub a_row : Text → Reading → List Text → Row
a_row id how values = record { id = id; values = values; count = None; source = Some CommandLine; reading = how }

pub unseen : (id : Text) (rows : Rows) → seen id rows ≡ None → has_row id rows ≡ false
unseen id [] e = refl
unseen id (r ∷ rows) e = go (bytes_eq r.id id) refl (unseen id rows)
  where
    go : (b : Bool) → bytes_eq r.id id ≡ b → (seen id rows ≡ None → has_row id rows ≡ false) → has_row id (r ∷ rows) ≡ false
    go true f rest =
        let some : ◌≡◌ {A = Option (List Text × Reading)} (Some (r.values, r.reading)) None = sym (ap (λ (t : Bool). option_map cell (cond t (Some r) (find (λ (q : Row). bytes_eq q.id id) rows))) f) ∙ e in
        absurd (cc)
    go false f rest =
        ap (λ (t : Bool). t || has_row id rows) f
        ∙ rest (sym (ap (λ (t : Bool). option_map cell (cond t (Some r) (find (λ (q : Row). bytes_eq q.id id) rows))) f) ∙ e)

pub is_seen : (id : Text) (rows : Rows) (q : List Text × Reading) → seen id rows ≡ Some q → has_row id rows ≡ true
is_seen id [] q e = absurd (cc)
is_seen id (r ∷ rows) q e = go (bytes_eq r.id id) refl (is_seen id rows q)
  where
    go : (b : Bool) → bytes_eq r.id id ≡ b → (seen id rows ≡ Some q → has_row id rows ≡ true) → has_row id (r ∷ rows) ≡ true
    go true f rest = ap (λ (t : Bool). t || has_row id rows) f
    go false f rest =
        ap (λ (t : Bool). t || has_row id rows) f
        ∙ rest (sym (ap (λ (t : Bool). option_map cell (cond t (Some r) (find (λ (q : Row). bytes_eq q.id id) rows))) f) ∙ e)

missing_row : (id : Text) (change : Row → Rows) (new rows : Rows) → has_row id rows ≡ false → at_row id change new rows ≡ rows ++ new
missing_row id change new [] e = refl
missing_row id change new (r ∷ rows) e =
    let parts = or_parts (bytes_eq r.id id) (has_row id rows) e in
    ap (λ (t : Bool). cond t (change r ++ rows) (r ∷ at_row id change new rows)) parts.0 ∙ ap (λ (l : Rows). r ∷ l) (missing_row id change new rows parts.1)

-- a row at the end
pub seen_last : (id other : Text) (how : Reading) (values : List Text) (rows : Rows)
    → seen other (rows ++ a_row id how values ∷ []) ≡ option_or (seen other rows) (cond (bytes_eq id other) (Some (values, how)) None)
seen_last id other how values [] = go (bytes_eq id other)
  where
    go : (b : Bool) → option_map cell (cond b (Some (a_row id how values)) None) ≡ cond b (Some (values, how)) None
    go true = refl
    go false = refl
seen_last id other how values (r ∷ rows) = go (bytes_eq r.id other) (seen_last id other how values rows)
  where
    go : (b : Bool) → seen other (rows ++ a_row id how values ∷ []) ≡ option_or (seen other rows) (cond (bytes_eq id other) (Some (values, how)) None)
        → option_map cell (cond b (Some r) (find (λ (q : Row). bytes_eq q.id other) (rows ++ a_row id how values ∷ [])))
        ≡ option_or (option_map cell (cond b (Some r) (find (λ (q : Row). bytes_eq q.id other) rows)))
        (cond (bytes_eq id other) (Some (values, how)) None)
    go true e = refl
    go false e = e

-- ---- one more option

abbrev pub shown : Name → Text → Text
shown o text = cond (has_value o) text (codes "true")

used_is : (o : Name) (text : Text) (rows : Rows)
    → used (rule_for o) (values_for o text) rows ≡ with_values (id_of o) (reading_by (rule_for o)) CommandLine (shown o text ∷ []) (without (id_of o) rows)
used_is Port text rows = refl
used_is Ladder text rows = refl
used_is Turns text rows = refl
used_is Bind text rows = refl
used_is Journal text rows = refl
used_is Players text rows = refl
used_is From text rows = refl
used_is Count text rows = refl
used_is Tries text rows = refl
used_is Refresh text rows = refl
used_is Rounds text rows = refl

pub option_row : (o : Name) (text : Text) (rows : Rows) → has_row (id_of o) rows ≡ false
    → used (rule_for o) (values_for o text) rows ≡ rows ++ a_row (id_of o) (reading_by (rule_for o)) (shown o text ∷ []) ∷ []
option_row o text rows e =
    let id = id_of o in
    let how = reading_by (rule_for o) in
    let stays : without id rows ≡ rows = missing_row id (λ r. []) [] rows e ∙ append-nil rows in
    used_is o text rows
    ∙ ap (with_values id how CommandLine (shown o text ∷ [])) stays
    ∙ missing_row id (more_values CommandLine (shown o text ∷ [])) (a_row id how (shown o text ∷ []) ∷ []) rows e

conflicts : (b : Bool) → passes (or_else (cond (b && true) (kind.ArgumentConflict ∷ []) []) []) ≡ not b
conflicts true = refl
conflicts false = refl

-- it may be used where it hasn't been
pub option_passes : (o : Name) (text : Text) (rows : Rows) (b : Bool) → has_row (id_of o) rows ≡ b → passes (use_fault false (rule_for o) (values_for o text) rows) ≡ not b
option_passes Port text rows b e = ap (λ (t : Bool). passes (or_else (cond (t && true) (kind.ArgumentConflict ∷ []) []) [])) e ∙ conflicts b
option_passes Ladder text rows b e = ap (λ (t : Bool). passes (or_else (cond (t && true) (kind.ArgumentConflict ∷ []) []) [])) e ∙ conflicts b
option_passes Turns text rows b e = ap (λ (t : Bool). passes (or_else (cond (t && true) (kind.ArgumentConflict ∷ []) []) [])) e ∙ conflicts b
option_passes Bind text rows b e = ap (λ (t : Bool). passes (or_else (cond (t && true) (kind.ArgumentConflict ∷ []) []) [])) e ∙ conflicts b
option_passes Journal text rows b e = ap (λ (t : Bool). passes (or_else (cond (t && true) (kind.ArgumentConflict ∷ []) []) [])) e ∙ conflicts b
option_passes Players text rows b e = ap (λ (t : Bool). passes (or_else (cond (t && true) (kind.ArgumentConflict ∷ []) []) [])) e ∙ conflicts b
option_passes From text rows b e = ap (λ (t : Bool). passes (or_else (cond (t && true) (kind.ArgumentConflict ∷ []) []) [])) e ∙ conflicts b
option_passes Count text rows b e = ap (λ (t : Bool). passes (or_else (cond (t && true) (kind.ArgumentConflict ∷ []) []) [])) e ∙ conflicts b
option_passes Tries text rows b e = ap (λ (t : Bool). passes (or_else (cond (t && true) (kind.ArgumentConflict ∷ []) []) [])) e ∙ conflicts b
option_passes Refresh text rows b e = ap (λ (t : Bool). passes (or_else (cond (t && true) (kind.ArgumentConflict ∷ []) []) [])) e ∙ conflicts b
option_passes Rounds text rows b e = ap (λ (t : Bool). passes (or_else (cond (t && true) (kind.ArgumentConflict ∷ []) []) [])) e ∙ conflicts b

-- another id is seen as before
pub seen_other : (source : ValueSource) (id other : Text) (how : Reading) (values : List Text) (rows : Rows) → bytes_eq id other ≡ false
    → seen other (with_values id how source values rows) ≡ seen other rows
seen_other source id other how values [] e = ap (λ (t : Bool). option_map cell (cond t (Some (record (a_row id how values) { source = Some source })) None)) e
seen_other source id other how values (r ∷ rows) e = go (bytes_eq r.id id) refl (seen_other source id other how values rows e)
  where
    go : (b : Bool) → bytes_eq r.id id ≡ b → seen other (with_values id how source values rows) ≡ seen other rows
        → seen other (cond b (more_values source values r ++ rows) (r ∷ with_values id how source values rows)) ≡ seen other (r ∷ rows)
    go true f rest =
        let differs : bytes_eq r.id other ≡ false = ap (λ (t : Text). bytes_eq t other) ((bytes_eq-Decides r.id id).0 f) ∙ e in
        ap (λ (t : Bool). option_map cell
        (cond t (Some (record r { values = r.values ++ values; source = Some (stronger r.source source) })) (find (λ (q : Row). bytes_eq q.id other) rows))) differs
        ∙ sym (ap (λ (t : Bool). option_map cell (cond t (Some r) (find (λ (q : Row). bytes_eq q.id other) rows))) differs)
    go false f rest = past (bytes_eq r.id other) rest
      where
        past : (b : Bool) → seen other (with_values id how source values rows) ≡ seen other rows
            → option_map cell (cond b (Some r) (find (λ (q : Row). bytes_eq q.id other) (with_values id how source values rows)))
            ≡ option_map cell (cond b (Some r) (find (λ (q : Row). bytes_eq q.id other) rows))
        past true g = refl
        past false g = g

-- ---- one more word

abbrev words_id : Text
words_id = codes "WORDS"

-- what is seen of these words
abbrev pub words_seen : List Text → Option (List Text × Reading)
words_seen [] = None
words_seen (word ∷ words) = Some (word ∷ words, reading_by words_part)

abbrev more_seen : Text → Option (List Text × Reading) → Option (List Text × Reading)
more_seen word None = Some (word ∷ [], reading_by words_part)
more_seen word (Some q) = Some (q.0 ++ word ∷ [], q.1)

seen_more : (word : Text) (rows : Rows) → seen words_id (with_values words_id (reading_by words_part) CommandLine (word ∷ []) rows) ≡ more_seen word (seen words_id rows)
seen_more word [] = refl
seen_more word (r ∷ rows) = go (bytes_eq r.id words_id) refl (seen_more word rows)
  where
    go : (b : Bool) → bytes_eq r.id words_id ≡ b → seen words_id (with_values words_id (reading_by words_part) CommandLine (word ∷ []) rows) ≡ more_seen word (seen words_id rows)
        → seen words_id (cond b (more_values CommandLine (word ∷ []) r ++ rows) (r ∷ with_values words_id (reading_by words_part) CommandLine (word ∷ []) rows))
        ≡ more_seen word (option_map cell (cond b (Some r) (find (λ (q : Row). bytes_eq q.id words_id) rows)))
    go true f e =
        ap (λ (t : Bool). option_map cell
        (cond t (Some (record r { values = r.values ++ word ∷ []; source = Some (stronger r.source CommandLine) })) (find (λ (q : Row). bytes_eq q.id words_id) rows))) f
    go false f e =
        ap (λ (t : Bool). option_map cell
        (cond t (Some r) (find (λ (q : Row). bytes_eq q.id words_id) (with_values words_id (reading_by words_part) CommandLine (word ∷ []) rows)))) f ∙ e

words_more : (words : List Text) (word : Text) → more_seen word (words_seen words) ≡ words_seen (words ++ word ∷ [])
words_more [] word = refl
words_more (w ∷ words) word = refl

no_words_id : (o : Name) → bytes_eq words_id (id_of o) ≡ false
no_words_id Port = refl
no_words_id Ladder = refl
no_words_id Turns = refl
no_words_id Bind = refl
no_words_id Journal = refl
no_words_id Players = refl
no_words_id From = refl
no_words_id Count = refl
no_words_id Tries = refl
no_words_id Refresh = refl
no_words_id Rounds = refl

id_no_words : (o : Name) → bytes_eq (id_of o) words_id ≡ false
id_no_words Port = refl
id_no_words Ladder = refl
id_no_words Turns = refl
id_no_words Bind = refl
id_no_words Journal = refl
id_no_words Players = refl
id_no_words From = refl
id_no_words Count = refl
id_no_words Tries = refl
id_no_words Refresh = refl
id_no_words Rounds = refl

-- ---- rows and what is read

abbrev pub HoldsOne : Name → List Text → Option (List Text × Reading) → Type 0
HoldsOne o values s = ((values ≡ []) × (s ≡ None)) ⊎ ((text : Text) × (values ≡ text ∷ []) × (s ≡ Some (shown o text ∷ [], reading_by (rule_for o))))

-- each option stands once at most, and the rows show it and the other words
pub record Agrees (rows : Rows) (r : Read) : Type 0 where
  pub options : (o : Name) → HoldsOne o (values_of o r.given) (seen (id_of o) rows)
  pub words : seen words_id rows ≡ words_seen r.words

values_append : (o : Name) (a b : List (Name × Text)) → values_of o (a ++ b) ≡ values_of o a ++ values_of o b
values_append o [] b = refl
values_append o (g ∷ a) b = go (is_same g.0 o) (values_append o a b)
  where
    go : (t : Bool) → values_of o (a ++ b) ≡ values_of o a ++ values_of o b
        → cond t (g.1 ∷ values_of o (a ++ b)) (values_of o (a ++ b)) ≡ cond t (g.1 ∷ values_of o a) (values_of o a) ++ values_of o b
    go true e = ap (λ (l : List Text). g.1 ∷ l) e
    go false e = e

same_name : (o : Name) → is_same o o ≡ true
same_name o = eq-eqb (number_of o) (number_of o) refl

agrees_word : (rows : Rows) (r : Read) (word : Text) → Agrees rows r → Agrees (used words_part (word ∷ []) rows) (joined r (one_word word))
agrees_word rows r word h =
    record {
      options = λ o.
          subst (λ (s : Option (List Text × Reading)). HoldsOne o (values_of o (r.given ++ [])) s) (sym (seen_other CommandLine words_id (id_of o) (reading_by words_part) (word ∷ []) rows (no_words_id o)))
          (subst (λ (l : List (Name × Text)). HoldsOne o (values_of o l) (seen (id_of o) rows)) (sym (append-nil r.given)) (h.options o));
      words = seen_more word rows ∙ ap (more_seen word) h.words ∙ words_more r.words word;
    }

-- an option that wasn't given
one_more : (o other : Name) (text : Text) (values : List Text) (s : Option (List Text × Reading)) → (t : Bool) → is_same o other ≡ t → (is_same o other ≡ true → values ≡ [])
    → (is_same o other ≡ true → s ≡ None) → HoldsOne other values s
    → HoldsOne other (values ++ cond t (text ∷ []) []) (option_or s (cond t (Some (shown o text ∷ [], reading_by (rule_for o))) None))
one_more o other text values s true e none unseen h =
    let same : o ≡ other = names_same o other e in
    inr (
      text,
      ap (λ (l : List Text). l ++ text ∷ []) (none e),
      ap (λ q. option_or q (Some (shown o text ∷ [], reading_by (rule_for o)))) (unseen e) ∙ ap (λ (m : Name). Some (shown m text ∷ [], reading_by (rule_for m))) same,
    )
one_more o other text values s false e none unseen h =
    subst (λ (l : List Text). HoldsOne other l (option_or s None)) (sym (append-nil values)) (subst (λ q. HoldsOne other values q) (sym (or_none s)) h)
  where
    or_none : (q : Option (List Text × Reading)) → option_or q None ≡ q
    or_none None = refl
    or_none (Some x) = refl

agrees_option : (rows : Rows) (r : Read) (o : Name) (text : Text) → values_of o r.given ≡ [] → seen (id_of o) rows ≡ None → Agrees rows r
    → Agrees (used (rule_for o) (values_for o text) rows) (joined r (one_option o text))
agrees_option rows r o text none unseen_yet h =
    subst (λ (l : Rows). Agrees l (joined r (one_option o text))) (sym (option_row o text rows (unseen (id_of o) rows unseen_yet)))
    (record {
      options = λ other.
          let here : is_same o other ≡ true → values_of other r.given ≡ [] = λ e. ap (λ (m : Name). values_of m r.given) (sym (names_same o other e)) ∙ none in
          let nowhere : is_same o other ≡ true → seen (id_of other) rows ≡ None = λ e. ap (λ (m : Name). seen (id_of m) rows) (sym (names_same o other e)) ∙ unseen_yet in
          subst (λ (l : List Text). HoldsOne other l (seen (id_of other) (rows ++ a_row (id_of o) (reading_by (rule_for o)) (shown o text ∷ []) ∷ [])))
          (sym (values_append other r.given ((o, text) ∷ [])))
          (subst (λ q. HoldsOne other (values_of other r.given ++ values_of other ((o, text) ∷ [])) q)
          (sym (seen_last (id_of o) (id_of other) (reading_by (rule_for o)) (shown o text ∷ []) rows
          ∙ ap (λ (t : Bool). option_or (seen (id_of other) rows) (cond t (Some (shown o text ∷ [], reading_by (rule_for o))) None)) (ids_as_names o other (is_same o other) refl)))
          (one_more o other text (values_of other r.given) (seen (id_of other) rows) (is_same o other) refl here nowhere (h.options other)));
      words =
          seen_last (id_of o) words_id (reading_by (rule_for o)) (shown o text ∷ []) rows
          ∙ ap (λ (t : Bool). option_or (seen words_id rows) (cond t (Some (shown o text ∷ [], reading_by (rule_for o))) None)) (id_no_words o)
          ∙ kept (seen words_id rows) ∙ h.words ∙ ap words_seen (sym (append-nil r.words));
    })
  where
    kept : (q : Option (List Text × Reading)) → option_or q None ≡ q
    kept None = refl
    kept (Some x) = refl

-- ---- the words in turn

abbrev pub IsIn : Name → List Name → Type 0
IsIn o [] = ⊥
IsIn o (x ∷ xs) = (o ≡ x) ⊎ IsIn o xs

-- an option of the command stands twice
abbrev pub IsRepeated : List Name → Read → Type 0
IsRepeated options r = (o : Name) × IsIn o options × (value_of o r ≡ None)

-- what comes of the words from a place on, behind what was read of those before
pub record Refused (options : List Name) (words : List Text) (place : Place) (before : Read) : Type 0 where
  pub repeated : (r : Read) → read_from options words place ≡ Some r → IsRepeated options (joined before r)

pub record Taken (options : List Name) (words : List Text) (place : Place) (before : Read) (rows : Rows) : Type 0 where
  pub read : Read
  pub is : read_from options words place ≡ Some read
  pub agrees : Agrees rows (joined before read)

abbrev pub Comes : List Name → List Text → Place → Read → Option Rows → Type 0
Comes options words place before None = Refused options words place before
Comes options words place before (Some rows) = Taken options words place before rows

step_reads : (options : List Name) (word : Text) (words : List Text) (place next : Place) (adds : Read) → word_at options place word ≡ Some (next, adds)
    → read_from options (word ∷ words) place ≡ option_map (λ r. joined adds r) (read_from options words next)
step_reads options word words place next adds e = ap (λ (o : Option (Place × Read)). goes_on o (λ p. read_from options words p)) e

mapped_some : (o : Option Read) (adds r : Read) → option_map (λ x. joined adds x) o ≡ Some r → (x : Read) × (o ≡ Some x) × (joined adds x ≡ r)
mapped_some None adds r e = absurd (cc)
mapped_some (Some x) adds r e = (x, refl, some_same (joined adds x) r e)

comes_on : (options : List Name) (word : Text) (words : List Text) (place next : Place) (before adds : Read) (o : Option Rows) → word_at options place word ≡ Some (next, adds)
    → Comes options words next (joined before adds) o → Comes options (word ∷ words) place before o
comes_on options word words place next before adds None e h =
    record {
      repeated = λ r is.
          let found = mapped_some (read_from options words next) adds r (sym (step_reads options word words place next adds e) ∙ is) in
          subst (λ (x : Read). IsRepeated options x) (sym (joined-assoc before adds found.0) ∙ ap (joined before) found.2) (h.repeated found.0 found.1);
    }
comes_on options word words place next before adds (Some rows) e h =
    record {
      read = joined adds h.read;
      is = step_reads options word words place next adds e ∙ ap (λ (o : Option Read). option_map (λ r. joined adds r) o) h.is;
      agrees = subst (λ (x : Read). Agrees rows x) (sym (joined-assoc before adds h.read)) h.agrees;
    }

comes_none : (options : List Name) (word : Text) (words : List Text) (place : Place) (before : Read) → word_at options place word ≡ None
    → Comes options (word ∷ words) place before None
comes_none options word words place before e =
    record {
      repeated = λ r is.
          let none : None ≡ Some r = sym (ap (λ (o : Option (Place × Read)). goes_on o (λ p. read_from options words p)) e) ∙ is in
          absurd (cc);
    }

same_comes : (options : List Name) (words : List Text) (place : Place) (before : Read) (a b : Option Rows) → a ≡ b → Comes options words place before a → Comes options words place before b
same_comes options words place before a b e h = subst (λ (o : Option Rows). Comes options words place before o) e h

in_given : (options : List Name) (word : Text) (o : Name) (how : Option Text) → first_given options word ≡ Some (o, how) → IsIn o options
in_given [] word o how e = absurd (cc)
in_given (x ∷ xs) word o how e = go (given_by x word) refl (in_given xs word o how)
  where
    go : (g : Option (Option Text)) → given_by x word ≡ g → (first_given xs word ≡ Some (o, how) → IsIn o xs) → (o ≡ x) ⊎ IsIn o xs
    go None f rest = inr (rest (sym (ap (λ (q : Option (Option Text)). option_or (option_map (λ h. (x, h)) q) (first_given xs word)) f) ∙ e))
    go (Some h) f rest =
        let same : Some (x, h) ≡ Some (o, how) = sym (ap (λ (q : Option (Option Text)). option_or (option_map (λ h. (x, h)) q) (first_given xs word)) f) ∙ e in
        inl (sym (ap (λ (q : Name × Option Text). q.0) (some_same (x, h) (o, how) same)))

twice : (o : Name) (t text : Text) (values : List Text) (given more : List (Name × Text)) → values_of o given ≡ t ∷ [] → at_most_one (values_of o (given ++ (o, text) ∷ more)) ≡ None
twice o t text values given more one =
    ap at_most_one
    (values_append o given ((o, text) ∷ more)
    ∙ ap (λ (l : List Text). l ++ values_of o ((o, text) ∷ more)) one
    ∙ ap (λ (b : Bool). t ∷ cond b (text ∷ values_of o more) (values_of o more)) (same_name o))

option_comes : (options : List Name) (word : Text) (words : List Text) (place : Place) (o : Name) (text : Text) (rows : Rows) (before : Read)
    → word_at options place word ≡ Some (Free, one_option o text) → IsIn o options → Agrees rows before
    → ((rows : Rows) (before : Read) → Agrees rows before → Comes options words Free before (rows_from options words Free rows))
    → Comes options (word ∷ words) place before (option_used o text rows (rows_from options words Free))
option_comes options word words place o text rows before at in_options h ih = go (h.options o)
  where
    go : HoldsOne o (values_of o before.given) (seen (id_of o) rows) → Comes options (word ∷ words) place before (option_used o text rows (rows_from options words Free))
    go (inl fresh) =
        same_comes options (word ∷ words) place before _ _
        (sym (ap (λ (b : Bool). option_and_then (rows_from options words Free) (cond b (Some (used (rule_for o) (values_for o text) rows)) None)) (option_passes o text rows false (unseen (id_of o) rows fresh.1))))
        (comes_on options word words place Free before (one_option o text) _ at
        (ih (used (rule_for o) (values_for o text) rows) (joined before (one_option o text)) (agrees_option rows before o text fresh.0 fresh.1 h)))
    go (inr again) =
        same_comes options (word ∷ words) place before None _
        (sym (ap (λ (b : Bool). option_and_then (rows_from options words Free) (cond b (Some (used (rule_for o) (values_for o text) rows)) None)) (option_passes o text rows true (is_seen (id_of o) rows _ again.2))))
        (record {
          repeated = λ r is.
              let found = mapped_some (read_from options words Free) (one_option o text) r (sym (step_reads options word words place Free (one_option o text) at) ∙ is) in
              (o, in_options, ap (λ (x : Read). value_of o (joined before x)) (sym found.2) ∙ twice o again.0 text [] before.given found.0.given again.1);
        })

-- an option whose value is read takes one, and is the command's
abbrev pub IsKnown : List Name → Place → Type 0
IsKnown options Free = ⊤
IsKnown options Bare = ⊤
IsKnown options (Behind o) = IsIn o options

pub at_bare : (options : List Name) (word : Text) → word_at options Bare word ≡ Some (Bare, one_word word)
unfolding word_at
at_bare options word = refl

pub at_behind : (options : List Name) (o : Name) (word : Text) → word_at options (Behind o) word ≡ cond (is_dashed word) None (Some (Free, one_option o word))
unfolding word_at
at_behind options o word = refl

pub at_free : (options : List Name) (word : Text)
    → word_at options Free word
    ≡ cond (bytes_eq word (45 ∷ 45 ∷ [])) (Some (Bare, nothing)) (cond (is_dashed word) (option_word (first_given options word)) (Some (Free, one_word word)))
unfolding word_at
at_free options word = refl

agrees_nothing : (rows : Rows) (r : Read) → Agrees rows r → Agrees rows (joined r nothing)
agrees_nothing rows r h = subst (λ (x : Read). Agrees rows x) (sym (joined-nothing r)) h

behind_comes : (options : List Name) (word : Text) (words : List Text) (o : Name) → IsIn o options → (rows : Rows) (before : Read) → Agrees rows before
    → ((rows : Rows) (before : Read) → Agrees rows before → Comes options words Free before (rows_from options words Free rows))
    → (b : Bool) → is_dashed word ≡ b → Comes options (word ∷ words) (Behind o) before (rows_from options (word ∷ words) (Behind o) rows)
behind_comes options word words o known rows before h ih true e =
    same_comes options (word ∷ words) (Behind o) before None _ (sym (ap (λ (t : Bool). cond t None (option_used o word rows (rows_from options words Free))) e))
    (comes_none options word words (Behind o) before (at_behind options o word ∙ ap (λ (t : Bool). cond t None (Some (Free, one_option o word))) e))
behind_comes options word words o known rows before h ih false e =
    same_comes options (word ∷ words) (Behind o) before _ _ (sym (ap (λ (t : Bool). cond t None (option_used o word rows (rows_from options words Free))) e))
    (option_comes options word words (Behind o) o word rows before (at_behind options o word ∙ ap (λ (t : Bool). cond t None (Some (Free, one_option o word))) e) known h ih)

-- the word gives an option, or doesn't
given_comes : (options : List Name) (word : Text) (words : List Text) (rows : Rows) (before : Read) → Agrees rows before
    → ((rows : Rows) (before : Read) → Agrees rows before → Comes options words Free before (rows_from options words Free rows))
    → ((o : Name) → IsIn o options → (rows : Rows) (before : Read) → Agrees rows before → Comes options words (Behind o) before (rows_from options words (Behind o) rows))
    → (g : Option (Name × Option Text)) → first_given options word ≡ g → word_at options Free word ≡ option_word g
    → Comes options (word ∷ words) Free before (option_read g rows (λ o. rows_from options words (Behind o)) (rows_from options words Free))
given_comes options word words rows before h ih back None e at = comes_none options word words Free before at
given_comes options word words rows before h ih back (Some (o, None)) e at = go (has_value o) refl
  where
    go : (b : Bool) → has_value o ≡ b
        → Comes options (word ∷ words) Free before (cond (has_value o) (rows_from options words (Behind o) rows) (option_used o [] rows (rows_from options words Free)))
    go true f =
        same_comes options (word ∷ words) Free before _ _ (sym (ap (λ (t : Bool). cond t (rows_from options words (Behind o) rows) (option_used o [] rows (rows_from options words Free))) f))
        (comes_on options word words Free (Behind o) before nothing _ (at ∙ ap (λ (t : Bool). Some (cond t (Behind o, nothing) (Free, one_option o []))) f)
        (back o (in_given options word o None e) rows (joined before nothing) (agrees_nothing rows before h)))
    go false f =
        same_comes options (word ∷ words) Free before _ _ (sym (ap (λ (t : Bool). cond t (rows_from options words (Behind o) rows) (option_used o [] rows (rows_from options words Free))) f))
        (option_comes options word words Free o [] rows before (at ∙ ap (λ (t : Bool). Some (cond t (Behind o, nothing) (Free, one_option o []))) f)
        (in_given options word o None e) h ih)
given_comes options word words rows before h ih back (Some (o, Some text)) e at = go (has_value o && not (is_dashed text)) refl
  where
    go : (b : Bool) → (has_value o && not (is_dashed text)) ≡ b
        → Comes options (word ∷ words) Free before (cond (has_value o && not (is_dashed text)) (option_used o text rows (rows_from options words Free)) None)
    go true f =
        same_comes options (word ∷ words) Free before _ _ (sym (ap (λ (t : Bool). cond t (option_used o text rows (rows_from options words Free)) None) f))
        (option_comes options word words Free o text rows before (at ∙ ap (λ (t : Bool). cond t (Some (Free, one_option o text)) None) f)
        (in_given options word o (Some text) e) h ih)
    go false f =
        same_comes options (word ∷ words) Free before None _ (sym (ap (λ (t : Bool). cond t (option_used o text rows (rows_from options words Free)) None) f))
        (comes_none options word words Free before (at ∙ ap (λ (t : Bool). cond t (Some (Free, one_option o text)) None) f))

abbrev rest_at : List Name → Text → List Text → Rows → Bool → Bool → Option Rows
rest_at options word words rows a b = cond a (rows_from options words Bare rows) (cond b
    (option_read (first_given options word) rows (λ o. rows_from options words (Behind o)) (rows_from options words Free)) (word_used word rows (rows_from options words Free)))

abbrev placed_at : List Name → Text → Bool → Bool → Option (Place × Read)
placed_at options word a b = cond a (Some (Bare, nothing)) (cond b (option_word (first_given options word)) (Some (Free, one_word word)))

free_comes : (options : List Name) (word : Text) (words : List Text) (rows : Rows) (before : Read) → Agrees rows before
    → ((rows : Rows) (before : Read) → Agrees rows before → Comes options words Free before (rows_from options words Free rows))
    → ((rows : Rows) (before : Read) → Agrees rows before → Comes options words Bare before (rows_from options words Bare rows))
    → ((o : Name) → IsIn o options → (rows : Rows) (before : Read) → Agrees rows before → Comes options words (Behind o) before (rows_from options words (Behind o) rows))
    → (a : Bool) → bytes_eq word (45 ∷ 45 ∷ []) ≡ a → (b : Bool) → is_dashed word ≡ b → (g : Option (Name × Option Text)) → first_given options word ≡ g
    → Comes options (word ∷ words) Free before (rows_from options (word ∷ words) Free rows)
free_comes options word words rows before h ih bare back a ea b eb g eg = go a ea b eb
  where
    go : (a : Bool) → bytes_eq word (45 ∷ 45 ∷ []) ≡ a → (b : Bool) → is_dashed word ≡ b → Comes options (word ∷ words) Free before (rows_from options (word ∷ words) Free rows)
    go true ea b eb =
        same_comes options (word ∷ words) Free before _ _ (sym (ap (λ (t : Bool). rest_at options word words rows t (is_dashed word)) ea))
        (comes_on options word words Free Bare before nothing _ (at_free options word ∙ ap (λ (t : Bool). placed_at options word t (is_dashed word)) ea)
        (bare rows (joined before nothing) (agrees_nothing rows before h)))
    go false ea true eb =
        same_comes options (word ∷ words) Free before _ _ (sym (ap₂ (rest_at options word words rows) ea eb ∙ ap (λ x. option_read x rows (λ o. rows_from options words (Behind o)) (rows_from options words Free)) eg))
        (given_comes options word words rows before h ih back g eg (at_free options word ∙ ap₂ (placed_at options word) ea eb ∙ ap option_word eg))
    go false ea false eb =
        same_comes options (word ∷ words) Free before _ _ (sym (ap₂ (rest_at options word words rows) ea eb))
        (comes_on options word words Free Free before (one_word word) _ (at_free options word ∙ ap₂ (placed_at options word) ea eb)
        (ih (used words_part (word ∷ []) rows) (joined before (one_word word)) (agrees_word rows before word h)))

comes : (options : List Name) (words : List Text) (place : Place) → IsKnown options place → (rows : Rows) (before : Read) → Agrees rows before
    → Comes options words place before (rows_from options words place rows)
comes options [] Free known rows before h = record { read = nothing; is = refl; agrees = agrees_nothing rows before h }
comes options [] Bare known rows before h = record { read = nothing; is = refl; agrees = agrees_nothing rows before h }
comes options [] (Behind o) known rows before h = record { repeated = λ r is. absurd (cc) }
comes options (word ∷ words) Bare known rows before h =
    comes_on options word words Bare Bare before (one_word word) _ (at_bare options word)
    (comes options words Bare tt (used words_part (word ∷ []) rows) (joined before (one_word word)) (agrees_word rows before word h))
comes options (word ∷ words) (Behind o) known rows before h =
    behind_comes options word words o known rows before h (λ later r agree. comes options words Free tt later r agree) (is_dashed word) refl
comes options (word ∷ words) Free known rows before h =
    free_comes options word words rows before h (λ later r agree. comes options words Free tt later r agree) (λ later r agree. comes options words Bare tt later r agree)
    (λ o is later r agree. comes options words (Behind o) is later r agree) (bytes_eq word (45 ∷ 45 ∷ [])) refl (is_dashed word) refl (first_given options word) refl

none_agrees : Agrees [] nothing
none_agrees = record { options = λ o. inl (refl, refl); words = refl }

-- all the words behind a command
pub all_come : (options : List Name) (words : List Text) → Comes options words Free nothing (rows_from options words Free [])
all_come options words = comes options words Free tt [] nothing none_agrees
