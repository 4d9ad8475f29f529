-- The texts that commands with options are given, by what the getters find.
use Rattle.std.proofs.Common.{◌≡◌, ◌∙◌, ◌++◌, inl, inr, Bool, true, false, cond, List, [], ◌∷◌, find, fold, Option, Some, None, Result, Ok, Err, IfOk, is_some, codes, refl, sym, ap, ap₂, true≢false}
use Rattle.std.specs.Option.{option_and_then, option_map, unwrap_or}
use Rattle.std.specs.Prelude.{slice_get}
use Rattle.std.specs.List.{list_all}
use Rattle.std.specs.Str.{bytes_eq}
use Rattle.std.proofs.lemmas.Bool.{and_parts}
use Rattle.clap.specs.Simple.{App, built, matches_of}
use Rattle.clap.specs.Values.{read_as}
use Rattle.clap.specs.declared.builder.value_parser.Reading.{Reading}
use Rattle.clap.specs.Words.{first_value, matched_of, one_text, raw_values, rows_of}
use Rattle.clap.specs.declared.parser.matches.Found.{Found}
use Rattle.clap.specs.declared.parser.matches.ValueSource.TheVariants.{DefaultValue}
use Rattle.clap.proofs.OnLiterals.{clap_on_literals}
use Rattle.clap.proofs.WalkLemmas.{first_value-rows, one_text-rows, raw_values-rows}
use Rattle.clap.specs.Walk.{Row, all_of, first_of, has_row, more_values, one_of, reading_by, with_default, with_values}
use Rattle.sm_words.specs.declared.option.Name.{Name}
use Rattle.sm_words.specs.declared.option.Name.TheVariants.{Port, Ladder, Turns, Bind, Journal, Players, From, Count, Tries, Refresh, Rounds}
use Rattle.sm_words.specs.Options.{edge_options, has_value, play_options, serve_options}
use Rattle.sm_words.specs.Words.{Text, Read, EdgeTexts, PlayTexts, ServeTexts, at_most_one, edge_texts, edge_words_by, only_word, play_texts, play_words_by, read, serve_texts, value_of, value_or_empty, values_of}
use Rattle.sm_words.specs.Clapped.{edge_app, is_taken, play_app, serve_app}
use Rattle.sm_words.proofs.Lexing.{id_of}
use Rattle.sm_words.proofs.Rows.{Rows, rule_for}
use Rattle.sm_words.proofs.Agreeing.{HoldsOne, cell, is_seen, seen, shown, unseen}
use Rattle.sm_words.proofs.Finding.{Told, edge_built, play_built, rules_of, same_cond, serve_built}
use Rattle.sm_words.proofs.Telling.{edge_twice, one_seen, play_twice, refused_none, serve_from, serve_line, serve_twice, taken_told, value_found, words_found}

-- an equation of what is answered, carried on
pub when_ok : {X E A : Type 0} (r : Result X E) (f : X → A) (a b : A) → IfOk r (λ x. f x ≡ a) → a ≡ b → IfOk r (λ x. f x ≡ b)
when_ok (Ok x) f a b h e = h ∙ e
when_ok (Err y) f a b h e = tt

-- ---- what the getters find

abbrev words_in : Found → List Text
words_in f = unwrap_or (option_map raw_values (matched_of f (codes "WORDS"))) []

given_value : (o : Name) (options : List Name) (words : List Text) (f : Found) (rows : Rows) (t : Told options words rows) → rows_of f ≡ rows → has_value o ≡ true
    → bytes_eq (codes "ladder") (id_of o) ≡ false → value_of o t.line ≡ Some (first_value f (id_of o))
given_value o options words f rows t is valued differs =
    value_found o options words rows t valued differs
    ∙ sym (ap (λ (q : Option Text). Some q) (first_value-rows f (id_of o) ∙ ap (λ (l : Rows). first_of (id_of o) l) is))

given_words : (options : List Name) (words : List Text) (f : Found) (rows : Rows) (t : Told options words rows) → rows_of f ≡ rows → words_in f ≡ t.line.words
given_words options words f rows t is =
    ap (λ (o : Option (List Text)). unwrap_or o []) (raw_values-rows f (codes "WORDS"))
    ∙ ap (λ (l : Rows). unwrap_or (all_of (codes "WORDS") l) []) is
    ∙ words_found options words rows t

same_taken : (app other : App) (words : List Text) (b : Bool) → app ≡ other → is_taken app words ≡ b → is_taken other words ≡ b
same_taken app other words b same e = ap (λ (a : App). is_taken a words) (sym same) ∙ e

same_rows : (app other : App) (words : List Text) (f : Found) → app ≡ other → rows_of f ≡ matches_of app words → rows_of f ≡ matches_of other words
same_rows app other words f same e = e ∙ ap (λ (a : App). matches_of a words) same

-- ---- relay and standby

edge_subs : (built edge_app).subs ≡ []
unfolding clap_on_literals
edge_subs = refl

pub edge_none : (app : App) (words : List Text) → app ≡ edge_app → is_taken app words ≡ false → None ≡ option_and_then edge_texts (read edge_options words)
edge_none app words same e =
    sym (refused_none edge_app (codes "edge") edge_options edge_built edge_subs refl edge_texts edge_twice words (same_taken app edge_app words false same e))

-- all texts, by what the getters find of the options
abbrev edge_from : List Text → Option Text → Option Text → Option Text → Option EdgeTexts
edge_from words rounds tries journal = option_and_then (λ j. edge_words_by words rounds tries j) (value_or_empty journal)

edge_line : (r : Read) (rounds tries journal : Option Text) → value_of Rounds r ≡ Some rounds → value_of Tries r ≡ Some tries → value_of Journal r ≡ Some journal
    → edge_texts r ≡ edge_from r.words rounds tries journal
edge_line r rounds tries journal a b c = rw (a, b, c) refl

-- what stands for an option may as well be given
edge_same : (words : List Text) (rounds tries : Option Text) (journal : Text)
    → edge_words_by words (Some (unwrap_or rounds (codes "1000000"))) (Some (unwrap_or tries (codes "3"))) journal ≡ edge_words_by words rounds tries journal
edge_same [] rounds tries journal = refl
edge_same (host ∷ []) rounds tries journal = refl
edge_same (host ∷ port ∷ []) rounds tries journal = refl
edge_same (host ∷ port ∷ path ∷ []) rounds tries journal = refl
edge_same (host ∷ port ∷ path ∷ store ∷ []) rounds tries journal = refl
edge_same (host ∷ port ∷ path ∷ store ∷ more ∷ words) rounds tries journal = refl

-- what is read of the words, by what the getters find
edge_read : (app : App) (words : List Text) (f : Found) → app ≡ edge_app → (is_taken app words ≡ true) × (rows_of f ≡ matches_of app words)
    → edge_from (words_in f) (first_value f (codes "rounds")) (first_value f (codes "tries")) (first_value f (codes "journal"))
    ≡ option_and_then edge_texts (read edge_options words)
edge_read app words f same taken =
    let t = taken_told edge_app (codes "edge") edge_options edge_built edge_subs refl words (same_taken app edge_app words true same taken.0) in
    let rows = matches_of edge_app words in
    let is = same_rows app edge_app words f same taken.1 in
    ap (λ (ws : List Text). edge_from ws (first_value f (codes "rounds")) (first_value f (codes "tries")) (first_value f (codes "journal")))
    (given_words edge_options words f rows t is)
    ∙ sym (edge_line t.line (first_value f (codes "rounds")) (first_value f (codes "tries")) (first_value f (codes "journal"))
    (given_value Rounds edge_options words f rows t is refl refl)
    (given_value Tries edge_options words f rows t is refl refl)
    (given_value Journal edge_options words f rows t is refl refl))
    ∙ sym (ap (λ (o : Option Read). option_and_then edge_texts o) t.is)

pub edge_no_journal : (app : App) (words : List Text) (f : Found) → app ≡ edge_app → (is_taken app words ≡ true) × (rows_of f ≡ matches_of app words)
    → value_or_empty (first_value f (codes "journal")) ≡ None → None ≡ option_and_then edge_texts (read edge_options words)
edge_no_journal app words f same taken none =
    sym (ap (λ (v : Option Text). option_and_then (λ j. edge_words_by (words_in f) (first_value f (codes "rounds")) (first_value f (codes "tries")) j) v) none)
    ∙ edge_read app words f same taken

pub edge_told : (app : App) (words all : List Text) (rounds tries journal : Text) (f : Found) → app ≡ edge_app → (is_taken app words ≡ true) × (rows_of f ≡ matches_of app words) → all ≡ words_in f
    → rounds ≡ unwrap_or (first_value f (codes "rounds")) (codes "1000000") → tries ≡ unwrap_or (first_value f (codes "tries")) (codes "3")
    → value_or_empty (first_value f (codes "journal")) ≡ Some journal
    → edge_words_by all (Some rounds) (Some tries) journal ≡ option_and_then edge_texts (read edge_options words)
edge_told app words all rounds tries journal f same taken found r n j =
    ap₂ (λ (a b : Text). edge_words_by all (Some a) (Some b) journal) r n
    ∙ edge_same all (first_value f (codes "rounds")) (first_value f (codes "tries")) journal
    ∙ ap (λ (ws : List Text). edge_words_by ws (first_value f (codes "rounds")) (first_value f (codes "tries")) journal) found
    ∙ sym (ap (λ (v : Option Text). option_and_then (λ j. edge_words_by (words_in f) (first_value f (codes "rounds")) (first_value f (codes "tries")) j) v) j)
    ∙ edge_read app words f same taken

-- ---- play

play_subs : (built play_app).subs ≡ []
unfolding clap_on_literals
play_subs = refl

pub play_none : (app : App) (words : List Text) → app ≡ play_app → is_taken app words ≡ false → None ≡ option_and_then play_texts (read play_options words)
play_none app words same e =
    sym (refused_none play_app (codes "play") play_options play_built play_subs refl play_texts play_twice words (same_taken app play_app words false same e))

play_line : (r : Read) (from count tries refresh : Option Text) → value_of From r ≡ Some from → value_of Count r ≡ Some count → value_of Tries r ≡ Some tries
    → value_of Refresh r ≡ Some refresh → play_texts r ≡ play_words_by r.words from count tries refresh
play_line r from count tries refresh a b c d = rw (a, b, c, d) refl

abbrev play_from : List Text → Option Text → Option Text → Option Text → Option Text → Option PlayTexts
play_from words from count tries refresh =
    play_words_by words from (Some (unwrap_or count (codes "1000000"))) (Some (unwrap_or tries (codes "3"))) (Some (unwrap_or refresh (codes "3")))

play_same : (words : List Text) (from count tries refresh : Option Text) → play_from words from count tries refresh ≡ play_words_by words from count tries refresh
play_same [] from count tries refresh = refl
play_same (host ∷ []) from count tries refresh = refl
play_same (host ∷ port ∷ []) from count tries refresh = refl
play_same (host ∷ port ∷ path ∷ []) from count tries refresh = refl
play_same (host ∷ port ∷ path ∷ stream ∷ more) from count tries refresh = refl

play_given : (words : List Text) (from : Option Text) (count tries refresh : Text) (v0 v1 v2 v3 : Option Text) → from ≡ v0 → count ≡ unwrap_or v1 (codes "1000000")
    → tries ≡ unwrap_or v2 (codes "3") → refresh ≡ unwrap_or v3 (codes "3")
    → play_words_by words from (Some count) (Some tries) (Some refresh) ≡ play_words_by words v0 v1 v2 v3
play_given words from count tries refresh v0 v1 v2 v3 e0 e1 e2 e3 =
    ap₂ (λ (a : Option Text) (b : Text). play_words_by words a (Some b) (Some tries) (Some refresh)) e0 e1
    ∙ ap₂ (λ (a b : Text). play_words_by words v0 (Some (unwrap_or v1 (codes "1000000"))) (Some a) (Some b)) e2 e3
    ∙ play_same words v0 v1 v2 v3

pub play_told : (app : App) (words all : List Text) (from : Option Text) (count tries refresh : Text) (f : Found) → app ≡ play_app
    → (is_taken app words ≡ true) × (rows_of f ≡ matches_of app words) → all ≡ words_in f → from ≡ first_value f (codes "from")
    → count ≡ unwrap_or (first_value f (codes "count")) (codes "1000000") → tries ≡ unwrap_or (first_value f (codes "tries")) (codes "3")
    → refresh ≡ unwrap_or (first_value f (codes "refresh")) (codes "3")
    → play_words_by all from (Some count) (Some tries) (Some refresh) ≡ option_and_then play_texts (read play_options words)
play_told app words all from count tries refresh f same taken found e0 e1 e2 e3 =
    let t = taken_told play_app (codes "play") play_options play_built play_subs refl words (same_taken app play_app words true same taken.0) in
    let rows = matches_of play_app words in
    let is = same_rows app play_app words f same taken.1 in
    play_given all from count tries refresh (first_value f (codes "from")) (first_value f (codes "count")) (first_value f (codes "tries")) (first_value f (codes "refresh")) e0 e1 e2 e3
    ∙ ap (λ (ws : List Text). play_words_by ws (first_value f (codes "from")) (first_value f (codes "count")) (first_value f (codes "tries")) (first_value f (codes "refresh")))
    (found ∙ given_words play_options words f rows t is)
    ∙ sym (play_line t.line (first_value f (codes "from")) (first_value f (codes "count")) (first_value f (codes "tries")) (first_value f (codes "refresh"))
    (given_value From play_options words f rows t is refl refl) (given_value Count play_options words f rows t is refl refl)
    (given_value Tries play_options words f rows t is refl refl) (given_value Refresh play_options words f rows t is refl refl))
    ∙ sym (ap (λ (o : Option Read). option_and_then play_texts o) t.is)

-- ---- a ladder, which has a default

abbrev ladder_id : Text
ladder_id = codes "ladder"

abbrev ladder_reading : Reading
ladder_reading = reading_by (rule_for Ladder)

-- an option with a value has none
kept : (o : Name) (rows : Rows) → has_value o ≡ true → with_default rows (rule_for o) ≡ rows
kept Port rows e = same_cond (has_row (id_of Port) rows) rows
kept Ladder rows e = absurd (true≢false (sym e))
kept Turns rows e = same_cond (has_row (id_of Turns) rows) rows
kept Bind rows e = same_cond (has_row (id_of Bind) rows) rows
kept Journal rows e = same_cond (has_row (id_of Journal) rows) rows
kept Players rows e = same_cond (has_row (id_of Players) rows) rows
kept From rows e = same_cond (has_row (id_of From) rows) rows
kept Count rows e = same_cond (has_row (id_of Count) rows) rows
kept Tries rows e = same_cond (has_row (id_of Tries) rows) rows
kept Refresh rows e = same_cond (has_row (id_of Refresh) rows) rows
kept Rounds rows e = same_cond (has_row (id_of Rounds) rows) rows

all_kept : (options : List Name) (rows : Rows) → list_all has_value options ≡ true → fold with_default rows (rules_of options) ≡ rows
all_kept [] rows e = same_cond (has_row (codes "WORDS") rows) rows
all_kept (o ∷ os) rows e =
    let parts = and_parts (has_value o) (list_all has_value os) e in
    ap (λ (l : Rows). fold with_default l (rules_of os)) (kept o rows parts.0) ∙ all_kept os rows parts.1

ladder_end : (rows : Rows) → fold with_default rows (rules_of serve_options) ≡ with_default rows (rule_for Ladder)
ladder_end rows =
    ap (λ (l : Rows). fold with_default (with_default l (rule_for Ladder)) (rules_of (Turns ∷ Bind ∷ Journal ∷ Players ∷ []))) (kept Port rows refl)
    ∙ all_kept (Turns ∷ Bind ∷ Journal ∷ Players ∷ []) (with_default rows (rule_for Ladder)) refl

abbrev no_ladder : Rows → Rows
no_ladder rows = with_values ladder_id ladder_reading DefaultValue (codes "false" ∷ []) rows

ladder_added : (rows : Rows) → seen ladder_id rows ≡ None → seen ladder_id (no_ladder rows) ≡ Some (codes "false" ∷ [], ladder_reading)
ladder_added [] e = refl
ladder_added (r ∷ rows) e = go (bytes_eq r.id ladder_id) refl (ladder_added rows)
  where
    go : (b : Bool) → bytes_eq r.id ladder_id ≡ b → (seen ladder_id rows ≡ None → seen ladder_id (no_ladder rows) ≡ Some (codes "false" ∷ [], ladder_reading))
        → seen ladder_id (cond b (more_values DefaultValue (codes "false" ∷ []) r ++ rows) (r ∷ no_ladder rows)) ≡ Some (codes "false" ∷ [], ladder_reading)
    go true f rest =
        let some : ◌≡◌ {A = Option (List Text × Reading)} (Some (r.values, r.reading)) None =
        sym (ap (λ (t : Bool). option_map cell (cond t (Some r) (find (λ (q : Row). bytes_eq q.id ladder_id) rows))) f) ∙ e in
        absurd (cc)
    go false f rest =
        ap (λ (t : Bool). option_map cell (cond t (Some r) (find (λ (q : Row). bytes_eq q.id ladder_id) (no_ladder rows)))) f
        ∙ rest (sym (ap (λ (t : Bool). option_map cell (cond t (Some r) (find (λ (q : Row). bytes_eq q.id ladder_id) rows))) f) ∙ e)

abbrev told_by : Option (List Text × Reading) → Option Text
told_by s = option_and_then (λ (q : List Text × Reading). option_map (read_as q.1) (slice_get q.0 0)) s

ladder_value : (rows : Rows) (b : Bool) → has_row ladder_id rows ≡ b
    → seen ladder_id (with_default rows (rule_for Ladder)) ≡ cond b (seen ladder_id rows) (seen ladder_id (no_ladder rows))
ladder_value rows true e = ap (λ (t : Bool). seen ladder_id (cond t rows (no_ladder rows))) e
ladder_value rows false e = ap (λ (t : Bool). seen ladder_id (cond t rows (no_ladder rows))) e

-- the value of the option, if it is given, and what the flag is read of
pub record LadderFound (r : Read) (rows : Rows) : Type 0 where
  pub value : Option Text
  pub read_so : value_of Ladder r ≡ Some value
  pub told_so : one_of ladder_id rows ≡ Some (cond (is_some value) (codes "true") (codes "false"))

ladder_by : (r : Read) (rows : Rows) → HoldsOne Ladder (values_of Ladder r.given) (seen ladder_id rows) → LadderFound r (with_default rows (rule_for Ladder))
ladder_by r rows (inl none) = record {
  value = None;
  read_so = ap at_most_one none.0;
  told_so =
      one_seen ladder_id (with_default rows (rule_for Ladder))
      ∙ ap told_by (ladder_value rows false (unseen ladder_id rows none.1) ∙ ladder_added rows none.1);
}
ladder_by r rows (inr one) = record {
  value = Some one.0;
  read_so = ap at_most_one one.1;
  told_so =
      one_seen ladder_id (with_default rows (rule_for Ladder))
      ∙ ap told_by (ladder_value rows true (is_seen ladder_id rows (shown Ladder one.0 ∷ [], ladder_reading) one.2) ∙ one.2);
}

ladder_found : (words : List Text) (rows : Rows) (t : Told serve_options words rows) → LadderFound t.line rows
ladder_found words rows t =
    let found = ladder_by t.line t.last (t.agrees.options Ladder) in
    record {
      value = found.value;
      read_so = found.read_so;
      told_so = ap (λ (l : Rows). one_of ladder_id l) (t.found ∙ ladder_end t.last) ∙ found.told_so;
    }

flag_is : (f : Found) (value : Option Text) (flag : Bool) → one_text f ladder_id ≡ Some (cond (is_some value) (codes "true") (codes "false"))
    → (one_text f ladder_id ≡ Some (codes "true") → flag ≡ true) → (one_text f ladder_id ≡ Some (codes "false") → flag ≡ false) → flag ≡ is_some value
flag_is f (Some text) flag e on off = on e
flag_is f None flag e on off = off e

-- ---- serve

serve_subs : (built serve_app).subs ≡ []
unfolding clap_on_literals
serve_subs = refl

pub serve_none : (app : App) (words : List Text) → app ≡ serve_app → is_taken app words ≡ false → None ≡ option_and_then serve_texts (read serve_options words)
serve_none app words same e =
    sym (refused_none serve_app (codes "serve") serve_options serve_built serve_subs refl serve_texts serve_twice words (same_taken app serve_app words false same e))

abbrev pub serve_by_found : Found → Bool → List Text → Option ServeTexts
serve_by_found f ladder words =
    serve_from (first_value f (codes "port")) ladder (first_value f (codes "turns")) (first_value f (codes "bind")) (first_value f (codes "journal"))
    (first_value f (codes "players")) words

-- what is found is what is read
pub record ServeTold (words : List Text) (f : Found) : Type 0 where
  pub ladder : Bool
  pub flag : (b : Bool) → (one_text f (codes "ladder") ≡ Some (codes "true") → b ≡ true) → (one_text f (codes "ladder") ≡ Some (codes "false") → b ≡ false) → b ≡ ladder
  pub texts : serve_by_found f ladder (words_in f) ≡ option_and_then serve_texts (read serve_options words)

pub serve_told : (app : App) (words : List Text) (f : Found) → app ≡ serve_app → (is_taken app words ≡ true) × (rows_of f ≡ matches_of app words) → ServeTold words f
serve_told app words f same taken =
    let t = taken_told serve_app (codes "serve") serve_options serve_built serve_subs refl words (same_taken app serve_app words true same taken.0) in
    let rows = matches_of serve_app words in
    let is = same_rows app serve_app words f same taken.1 in
    let found = ladder_found words rows t in
    record {
      ladder = is_some found.value;
      flag = λ b on off. flag_is f found.value b (one_text-rows f ladder_id ∙ ap (λ (l : Rows). one_of ladder_id l) is ∙ found.told_so) on off;
      texts =
          ap (λ (ws : List Text). serve_by_found f (is_some found.value) ws) (given_words serve_options words f rows t is)
          ∙ sym (serve_line t.line (first_value f (codes "port")) found.value (first_value f (codes "turns")) (first_value f (codes "bind")) (first_value f (codes "journal"))
          (first_value f (codes "players")) (given_value Port serve_options words f rows t is refl refl) found.read_so
          (given_value Turns serve_options words f rows t is refl refl) (given_value Bind serve_options words f rows t is refl refl)
          (given_value Journal serve_options words f rows t is refl refl) (given_value Players serve_options words f rows t is refl refl))
          ∙ sym (ap (λ (o : Option Read). option_and_then serve_texts o) t.is);
    }

-- where one of these isn't there, nothing is taken
no_port : (ladder : Bool) (port turns bind journal players : Option Text) (words : List Text) → port ≡ None
    → None ≡ serve_from port ladder turns bind journal players words
no_port ladder port turns bind journal players words e = sym (ap (λ (p : Option Text). serve_from p ladder turns bind journal players words) e)

no_bind : (ladder : Bool) (port turns bind journal players : Option Text) (words : List Text) → value_or_empty bind ≡ None
    → None ≡ serve_from port ladder turns bind journal players words
no_bind ladder None turns bind journal players words e = refl
no_bind ladder (Some port) turns bind journal players words e = rw e refl

abbrev with_store : Text → Bool → Option Text → List Text → Text → Text → Text → Option ServeTexts
with_store port ladder turns words bind journal players =
    option_map (λ store. record { port = port; ladder = ladder; turns = turns; bind = bind; journal = journal; players = players; store = store }) (only_word words)

no_journal : (ladder : Bool) (port turns bind journal players : Option Text) (words : List Text) → value_or_empty journal ≡ None
    → None ≡ serve_from port ladder turns bind journal players words
no_journal ladder None turns bind journal players words e = refl
no_journal ladder (Some port) turns bind journal players words e = go (value_or_empty bind)
  where
    go : (b : Option Text) → None ≡ option_and_then (λ b. option_and_then (λ j. option_and_then (λ p. with_store port ladder turns words b j p) (value_or_empty players)) (value_or_empty journal)) b
    go None = refl
    go (Some b) = rw e refl

no_players : (ladder : Bool) (port turns bind journal players : Option Text) (words : List Text) → value_or_empty players ≡ None
    → None ≡ serve_from port ladder turns bind journal players words
no_players ladder None turns bind journal players words e = refl
no_players ladder (Some port) turns bind journal players words e = go (value_or_empty bind) (value_or_empty journal)
  where
    go : (b j : Option Text) → None ≡ option_and_then (λ b. option_and_then (λ j. option_and_then (λ p. with_store port ladder turns words b j p) (value_or_empty players)) j) b
    go None j = refl
    go (Some b) None = refl
    go (Some b) (Some j) = rw e refl

-- no word, or more than one
no_store : (ladder : Bool) (port turns bind journal players : Option Text) (words : List Text) → only_word words ≡ None
    → None ≡ serve_from port ladder turns bind journal players words
no_store ladder None turns bind journal players words e = refl
no_store ladder (Some port) turns bind journal players words e = go (value_or_empty bind) (value_or_empty journal) (value_or_empty players)
  where
    go : (b j q : Option Text) → None ≡ option_and_then (λ b. option_and_then (λ j. option_and_then (λ p. with_store port ladder turns words b j p) q) j) b
    go None j q = refl
    go (Some b) None q = refl
    go (Some b) (Some j) None = refl
    go (Some b) (Some j) (Some q) = rw e refl

-- all are there
all_there : (ladder : Bool) (port bind journal players store : Text) (turns : Option Text) (p b j q : Option Text) (words : List Text) → p ≡ Some port → value_or_empty b ≡ Some bind
    → value_or_empty j ≡ Some journal → value_or_empty q ≡ Some players → only_word words ≡ Some store
    → Some (record { port = port; ladder = ladder; turns = turns; bind = bind; journal = journal; players = players; store = store }) ≡ serve_from p ladder turns b j q words
all_there ladder port bind journal players store turns p b j q words ep eb ej eq ew = rw (ep, eb, ej, eq, ew) refl

-- ---- serve, by what is found

module _ (words : List Text) (f : Found) (told : ServeTold words f) where
  abbrev Answer : Option ServeTexts → Type 0
  Answer texts = texts ≡ option_and_then serve_texts (read serve_options words)

  pub lacks_port : first_value f (codes "port") ≡ None → Answer None
  lacks_port e =
      no_port told.ladder (first_value f (codes "port")) (first_value f (codes "turns")) (first_value f (codes "bind")) (first_value f (codes "journal"))
      (first_value f (codes "players")) (words_in f) e ∙ told.texts

  pub lacks_bind : value_or_empty (first_value f (codes "bind")) ≡ None → Answer None
  lacks_bind e =
      no_bind told.ladder (first_value f (codes "port")) (first_value f (codes "turns")) (first_value f (codes "bind")) (first_value f (codes "journal"))
      (first_value f (codes "players")) (words_in f) e ∙ told.texts

  pub lacks_journal : value_or_empty (first_value f (codes "journal")) ≡ None → Answer None
  lacks_journal e =
      no_journal told.ladder (first_value f (codes "port")) (first_value f (codes "turns")) (first_value f (codes "bind")) (first_value f (codes "journal"))
      (first_value f (codes "players")) (words_in f) e ∙ told.texts

  pub lacks_players : value_or_empty (first_value f (codes "players")) ≡ None → Answer None
  lacks_players e =
      no_players told.ladder (first_value f (codes "port")) (first_value f (codes "turns")) (first_value f (codes "bind")) (first_value f (codes "journal"))
      (first_value f (codes "players")) (words_in f) e ∙ told.texts

  pub lacks_store : only_word (words_in f) ≡ None → Answer None
  lacks_store e =
      no_store told.ladder (first_value f (codes "port")) (first_value f (codes "turns")) (first_value f (codes "bind")) (first_value f (codes "journal"))
      (first_value f (codes "players")) (words_in f) e ∙ told.texts

  pub has_all : (ladder : Bool) (port bind journal players store : Text) (turns : Option Text) → ladder ≡ told.ladder → turns ≡ first_value f (codes "turns")
      → first_value f (codes "port") ≡ Some port → value_or_empty (first_value f (codes "bind")) ≡ Some bind → value_or_empty (first_value f (codes "journal")) ≡ Some journal
      → value_or_empty (first_value f (codes "players")) ≡ Some players → only_word (words_in f) ≡ Some store
      → Answer (Some (record { port = port; ladder = ladder; turns = turns; bind = bind; journal = journal; players = players; store = store }))
  has_all ladder port bind journal players store turns l n ep eb ej eq ew =
      all_there ladder port bind journal players store turns (first_value f (codes "port")) (first_value f (codes "bind")) (first_value f (codes "journal"))
      (first_value f (codes "players")) (words_in f) ep eb ej eq ew
      ∙ ap₂ (λ (b : Bool) (v : Option Text). serve_from (first_value f (codes "port")) b v (first_value f (codes "bind")) (first_value f (codes "journal"))
      (first_value f (codes "players")) (words_in f)) l n
      ∙ told.texts
