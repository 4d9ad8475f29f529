-- What is found of the words, by the names of the options.
use Rattle.std.proofs.Common.{◌≡◌, ◌∙◌, length, drop, arith, ◌&&◌, ◌||◌, Bool, true, false, cond, not, List, [], ◌∷◌, ◌++◌, fold, map, Option, Some, None, codes, refl, sym, ap, true≢false}
use Rattle.std.specs.Option.{option_map}
use Rattle.std.specs.List.{list_any}
use Rattle.std.specs.Str.{bytes_eq}
use Rattle.std.proofs.lemmas.Bool.{ne_eqb, or_right}
use Rattle.std.proofs.lemmas.Slice.Eq.{bytes_eq-Decides}
use Rattle.clap.specs.Kinds.{Kinds, or_else}
use Rattle.clap.specs.Faults.{built_fault, check_fault, default_fault, defaults_fault, fault_of, given_default_fault, level_fault}
use Rattle.clap.specs.Simple.{App, Shape, argument_words, built}
use Rattle.clap.specs.Takes.{is_given}
use Rattle.clap.specs.Walk.{Rule, arg_by_id, arg_by_index, arg_by_long, finished, has_row, is_empty, nothing_held, reading_by, walk_from, with_default, with_values, Walk}
use Rattle.clap.specs.declared.error.kind.ErrorKind.TheVariants as kind
use Rattle.clap.specs.declared.parser.matches.ValueSource.TheVariants.{DefaultValue}
use Rattle.clap.proofs.FaultLemmas.{leaf_fault}
use Rattle.clap.proofs.OnLiterals.{clap_on_literals}
use Rattle.sm_words.specs.declared.option.Name.{Name}
use Rattle.sm_words.specs.declared.option.Name.TheVariants.{Port, Ladder, Turns, Bind, Journal, Players, From, Count, Tries, Refresh, Rounds}
use Rattle.sm_words.specs.declared.line.Place.TheVariants.{Free}
use Rattle.sm_words.specs.Options.{edge_options, play_options, serve_options}
use Rattle.sm_words.specs.Words.{Text, Read, nothing, read}
use Rattle.sm_words.specs.Clapped.{are_plain, edge_app, play_app, serve_app, words_app}
use Rattle.sm_words.proofs.Lexing.{id_of, named}
use Rattle.sm_words.proofs.Rows.{Rows, passes, rows_from, rule_for, words_part}
use Rattle.sm_words.proofs.Walking.{Fits, Walks, ends, is_walked, level_passes_by, shape_with, walks}
use Rattle.sm_words.proofs.Agreeing.{Agrees, Comes, IsRepeated, all_come, seen, seen_other}

-- ---- the arguments of a command

-- the options, and then the words
abbrev pub rules_of : List Name → List Rule
rules_of options = map rule_for options ++ words_part ∷ []

or_none : (b : Bool) → (b || false) ≡ b
or_none true = refl
or_none false = refl

longs_of : (options : List Name) (name : Text) → arg_by_long (rules_of options) name ≡ option_map rule_for (named options name)
longs_of [] name = refl
longs_of (o ∷ os) name =
    ap (λ (b : Bool). cond b (Some (rule_for o)) (arg_by_long (rules_of os) name)) (or_none (bytes_eq (id_of o) name)) ∙ go (bytes_eq (id_of o) name) (longs_of os name)
  where
    go : (b : Bool) → arg_by_long (rules_of os) name ≡ option_map rule_for (named os name)
        → cond b (Some (rule_for o)) (arg_by_long (rules_of os) name) ≡ option_map rule_for (cond b (Some o) (named os name))
    go true e = refl
    go false e = e

name_is : (options : List Name) (name : Text) (o : Name) → named options name ≡ Some o → id_of o ≡ name
name_is [] name o e = absurd (cc)
name_is (x ∷ xs) name o e = go (bytes_eq (id_of x) name) refl (name_is xs name o)
  where
    go : (b : Bool) → bytes_eq (id_of x) name ≡ b → (named xs name ≡ Some o → id_of o ≡ name) → id_of o ≡ name
    go true f rest =
        let same : Some x ≡ Some o = sym (ap (λ (t : Bool). cond t (Some x) (named xs name)) f) ∙ e in
        let at : x ≡ o = cc in
        ap id_of (sym at) ∙ (bytes_eq-Decides (id_of x) name).0 f
    go false f rest = rest (sym (ap (λ (t : Bool). cond t (Some x) (named xs name)) f) ∙ e)

ids_of : (options : List Name) (id : Text) (o : Name) → named options id ≡ Some o → arg_by_id (rules_of options) id ≡ Some (rule_for o)
ids_of [] id o e = absurd (cc)
ids_of (x ∷ xs) id o e = go (bytes_eq (id_of x) id) refl (ids_of xs id o)
  where
    go : (b : Bool) → bytes_eq (id_of x) id ≡ b → (named xs id ≡ Some o → arg_by_id (rules_of xs) id ≡ Some (rule_for o)) → arg_by_id (rules_of (x ∷ xs)) id ≡ Some (rule_for o)
    go true f rest =
        let same : Some x ≡ Some o = sym (ap (λ (t : Bool). cond t (Some x) (named xs id)) f) ∙ e in
        ap (λ (t : Bool). cond t (Some (rule_for x)) (arg_by_id (rules_of xs) id)) f ∙ ap (λ (q : Option Name). option_map rule_for q) same
    go false f rest =
        ap (λ (t : Bool). cond t (Some (rule_for x)) (arg_by_id (rules_of xs) id)) f ∙ rest (sym (ap (λ (t : Bool). cond t (Some x) (named xs id)) f) ∙ e)

no_words : (o : Name) → bytes_eq (id_of o) (codes "WORDS") ≡ false
no_words Port = refl
no_words Ladder = refl
no_words Turns = refl
no_words Bind = refl
no_words Journal = refl
no_words Players = refl
no_words From = refl
no_words Count = refl
no_words Tries = refl
no_words Refresh = refl
no_words Rounds = refl

words_of : (options : List Name) → arg_by_id (rules_of options) (codes "WORDS") ≡ Some words_part
words_of [] = refl
words_of (o ∷ os) = ap (λ (t : Bool). cond t (Some (rule_for o)) (arg_by_id (rules_of os) (codes "WORDS"))) (no_words o) ∙ words_of os

first_of_words : (options : List Name) → arg_by_index (rules_of options) 1 ≡ Some words_part
first_of_words [] = refl
first_of_words (o ∷ os) = first_of_words os

fits_of : (options : List Name) → Fits options (rules_of options)
fits_of options = record {
  longs = longs_of options;
  ids = λ name o e. ids_of options (id_of o) o (ap (named options) (name_is options name o e) ∙ e);
  words_found = words_of options;
  words_first = first_of_words options;
}

-- ---- what stands for an option that isn't given

default_passes_for : (o : Name) (rows : Rows) (b : Bool) → has_row (id_of o) rows ≡ b → default_fault rows (rule_for o) ≡ []
default_passes_for Port rows true e = ap (λ (t : Bool). cond (t || is_empty (rule_for Port).defaults) [] (given_default_fault (rule_for Port) (rule_for Port).defaults)) e
default_passes_for Ladder rows true e = ap (λ (t : Bool). cond (t || is_empty (rule_for Ladder).defaults) [] (given_default_fault (rule_for Ladder) (rule_for Ladder).defaults)) e
default_passes_for Turns rows true e = ap (λ (t : Bool). cond (t || is_empty (rule_for Turns).defaults) [] (given_default_fault (rule_for Turns) (rule_for Turns).defaults)) e
default_passes_for Bind rows true e = ap (λ (t : Bool). cond (t || is_empty (rule_for Bind).defaults) [] (given_default_fault (rule_for Bind) (rule_for Bind).defaults)) e
default_passes_for Journal rows true e = ap (λ (t : Bool). cond (t || is_empty (rule_for Journal).defaults) [] (given_default_fault (rule_for Journal) (rule_for Journal).defaults)) e
default_passes_for Players rows true e = ap (λ (t : Bool). cond (t || is_empty (rule_for Players).defaults) [] (given_default_fault (rule_for Players) (rule_for Players).defaults)) e
default_passes_for From rows true e = ap (λ (t : Bool). cond (t || is_empty (rule_for From).defaults) [] (given_default_fault (rule_for From) (rule_for From).defaults)) e
default_passes_for Count rows true e = ap (λ (t : Bool). cond (t || is_empty (rule_for Count).defaults) [] (given_default_fault (rule_for Count) (rule_for Count).defaults)) e
default_passes_for Tries rows true e = ap (λ (t : Bool). cond (t || is_empty (rule_for Tries).defaults) [] (given_default_fault (rule_for Tries) (rule_for Tries).defaults)) e
default_passes_for Refresh rows true e = ap (λ (t : Bool). cond (t || is_empty (rule_for Refresh).defaults) [] (given_default_fault (rule_for Refresh) (rule_for Refresh).defaults)) e
default_passes_for Rounds rows true e = ap (λ (t : Bool). cond (t || is_empty (rule_for Rounds).defaults) [] (given_default_fault (rule_for Rounds) (rule_for Rounds).defaults)) e
default_passes_for Port rows false e = ap (λ (t : Bool). cond (t || is_empty (rule_for Port).defaults) [] (given_default_fault (rule_for Port) (rule_for Port).defaults)) e
default_passes_for Ladder rows false e = ap (λ (t : Bool). cond (t || is_empty (rule_for Ladder).defaults) [] (given_default_fault (rule_for Ladder) (rule_for Ladder).defaults)) e
default_passes_for Turns rows false e = ap (λ (t : Bool). cond (t || is_empty (rule_for Turns).defaults) [] (given_default_fault (rule_for Turns) (rule_for Turns).defaults)) e
default_passes_for Bind rows false e = ap (λ (t : Bool). cond (t || is_empty (rule_for Bind).defaults) [] (given_default_fault (rule_for Bind) (rule_for Bind).defaults)) e
default_passes_for Journal rows false e = ap (λ (t : Bool). cond (t || is_empty (rule_for Journal).defaults) [] (given_default_fault (rule_for Journal) (rule_for Journal).defaults)) e
default_passes_for Players rows false e = ap (λ (t : Bool). cond (t || is_empty (rule_for Players).defaults) [] (given_default_fault (rule_for Players) (rule_for Players).defaults)) e
default_passes_for From rows false e = ap (λ (t : Bool). cond (t || is_empty (rule_for From).defaults) [] (given_default_fault (rule_for From) (rule_for From).defaults)) e
default_passes_for Count rows false e = ap (λ (t : Bool). cond (t || is_empty (rule_for Count).defaults) [] (given_default_fault (rule_for Count) (rule_for Count).defaults)) e
default_passes_for Tries rows false e = ap (λ (t : Bool). cond (t || is_empty (rule_for Tries).defaults) [] (given_default_fault (rule_for Tries) (rule_for Tries).defaults)) e
default_passes_for Refresh rows false e = ap (λ (t : Bool). cond (t || is_empty (rule_for Refresh).defaults) [] (given_default_fault (rule_for Refresh) (rule_for Refresh).defaults)) e
default_passes_for Rounds rows false e = ap (λ (t : Bool). cond (t || is_empty (rule_for Rounds).defaults) [] (given_default_fault (rule_for Rounds) (rule_for Rounds).defaults)) e

defaults_pass : (options : List Name) (rows : Rows) → defaults_fault rows (rules_of options) ≡ []
unfolding defaults_fault
defaults_pass [] rows = ap (λ (t : Bool). or_else (cond t [] (given_default_fault words_part [])) []) (or_right (has_row (codes "WORDS") rows) true refl)
defaults_pass (o ∷ os) rows =
    ap (λ (k : Kinds). or_else k (defaults_fault (with_default rows (rule_for o)) (rules_of os))) (default_passes_for o rows (has_row (id_of o) rows) refl)
    ∙ defaults_pass os (with_default rows (rule_for o))

none_required : (options : List Name) (rows : Rows) → list_any (λ (a : Rule). a.required && not (is_given a.id rows)) (rules_of options) ≡ false
none_required [] rows = refl
none_required (o ∷ os) rows = none_required os rows

checks_pass : (name : Text) (options : List Name) (rows : Rows) → check_fault (shape_with name (rules_of options)) rows false ≡ []
checks_pass name options rows = ap (λ (b : Bool). cond b (kind.MissingRequiredArgument ∷ []) []) (none_required options rows)

pub same_cond : (b : Bool) (rows : Rows) → cond b rows rows ≡ rows
same_cond true rows = refl
same_cond false rows = refl

ladder_kept : (b : Bool) (other : Text) (rows : Rows) → bytes_eq (codes "ladder") other ≡ false
    → seen other (cond b rows (with_values (codes "ladder") (reading_by (rule_for Ladder)) DefaultValue (codes "false" ∷ []) rows)) ≡ seen other rows
ladder_kept true other rows e = refl
ladder_kept false other rows e = seen_other DefaultValue (codes "ladder") other (reading_by (rule_for Ladder)) (codes "false" ∷ []) rows e

kept_for : (o : Name) (other : Text) (rows : Rows) → bytes_eq (codes "ladder") other ≡ false → seen other (with_default rows (rule_for o)) ≡ seen other rows
kept_for Port other rows e = ap (seen other) (same_cond (has_row (id_of Port) rows) rows)
kept_for Ladder other rows e = ladder_kept (has_row (codes "ladder") rows) other rows e
kept_for Turns other rows e = ap (seen other) (same_cond (has_row (id_of Turns) rows) rows)
kept_for Bind other rows e = ap (seen other) (same_cond (has_row (id_of Bind) rows) rows)
kept_for Journal other rows e = ap (seen other) (same_cond (has_row (id_of Journal) rows) rows)
kept_for Players other rows e = ap (seen other) (same_cond (has_row (id_of Players) rows) rows)
kept_for From other rows e = ap (seen other) (same_cond (has_row (id_of From) rows) rows)
kept_for Count other rows e = ap (seen other) (same_cond (has_row (id_of Count) rows) rows)
kept_for Tries other rows e = ap (seen other) (same_cond (has_row (id_of Tries) rows) rows)
kept_for Refresh other rows e = ap (seen other) (same_cond (has_row (id_of Refresh) rows) rows)
kept_for Rounds other rows e = ap (seen other) (same_cond (has_row (id_of Rounds) rows) rows)

pub seen_at_end : (options : List Name) (other : Text) (rows : Rows) → bytes_eq (codes "ladder") other ≡ false → seen other (fold with_default rows (rules_of options)) ≡ seen other rows
seen_at_end [] other rows e = ap (seen other) (same_cond (has_row (codes "WORDS") rows) rows)
seen_at_end (o ∷ os) other rows e = seen_at_end os other (with_default rows (rule_for o)) e ∙ kept_for o other rows e

-- ---- what is taken

is_empty_passes : (k : Kinds) → is_empty k ≡ passes k
is_empty_passes [] = refl
is_empty_passes (x ∷ xs) = ne_eqb (length (x ∷ xs)) 0 (λ e. omega arith)

-- what is read of the words is what is seen among the rows
pub record Told (options : List Name) (words : List Text) (rows : Rows) : Type 0 where
  pub line : Read
  pub is : read options words ≡ Some line
  pub last : Rows
  pub agrees : Agrees last line
  pub found : rows ≡ fold with_default last (rules_of options)

module _ (name : Text) (options : List Name) (words : List Text) where
  abbrev c : List Rule
  c = rules_of options

  abbrev w : Walk
  w = walk_from nothing_held

  told_by : (o : Option Rows) → Walks name c w words o → Comes options words Free nothing o → is_walked name c w words ≡ true
      → Told options words (finished c (ends name c w words).held)
  told_by None walk come e = absurd (true≢false (sym e ∙ walk.takes))
  told_by (Some rows) walk come e =
      record { line = come.read; is = come.is; last = rows; agrees = come.agrees; found = ap (λ (r : Rows). fold with_default r c) walk.rows }

  refused_by : (o : Option Rows) → Walks name c w words o → Comes options words Free nothing o → is_walked name c w words ≡ false
      → (r : Read) → read options words ≡ Some r → IsRepeated options r
  refused_by None walk come e = come.repeated
  refused_by (Some rows) walk come e = absurd (true≢false (sym walk.takes ∙ e))

  pub told : are_plain words ≡ true → is_walked name c w words ≡ true → Told options words (finished c (ends name c w words).held)
  told plain = told_by (rows_from options words Free []) (walks name c options (fits_of options) words plain) (all_come options words)

  pub refused : are_plain words ≡ true → is_walked name c w words ≡ false → (r : Read) → read options words ≡ Some r → IsRepeated options r
  refused plain = refused_by (rows_from options words Free []) (walks name c options (fits_of options) words plain) (all_come options words)

  -- the walk fails as the command does
  pub walked_is : passes (level_fault (shape_with name c) [] nothing_held words false []) ≡ is_walked name c w words
  walked_is = level_passes_by name c options (fits_of options) words (defaults_pass options) (checks_pass name options)

-- ---- the commands

pub fault_passes : (app : App) (name : Text) (options : List Name) (words : List Text) → (built app).top ≡ shape_with name (rules_of options) → (built app).subs ≡ [] → app.top.no_binary_name ≡ true
    → is_empty (fault_of app words) ≡ is_walked name (rules_of options) (walk_from nothing_held) words
fault_passes app name options words top subs bare =
    let behind : argument_words app words ≡ words = ap (λ (b : Bool). cond b words (drop 1 words)) bare in
    is_empty_passes (fault_of app words)
    ∙ ap (λ (ws : List Text). passes (built_fault (built app) nothing_held ws)) behind
    ∙ ap passes (leaf_fault (built app) nothing_held words subs)
    ∙ ap (λ (s : Shape). passes (level_fault s [] nothing_held words false [])) top
    ∙ walked_is name options words

pub words_built : (built words_app).top ≡ shape_with (codes "words") (rules_of [])
unfolding clap_on_literals
words_built = refl

pub serve_built : (built serve_app).top ≡ shape_with (codes "serve") (rules_of serve_options)
unfolding clap_on_literals
serve_built = refl

pub play_built : (built play_app).top ≡ shape_with (codes "play") (rules_of play_options)
unfolding clap_on_literals
play_built = refl

pub edge_built : (built edge_app).top ≡ shape_with (codes "edge") (rules_of edge_options)
unfolding clap_on_literals
edge_built = refl
