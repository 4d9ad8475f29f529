-- What the commands come to, by what is found of their words.
use Rattle.std.proofs.Common.{◌≡◌, ◌∙◌, ℕ, drop, map, ◌&&◌, ◌||◌, inl, inr, Bool, true, false, cond, not, List, [], ◌∷◌, find, fold, Option, Some, None, is_some, codes, refl, sym, ap, ap₂, subst, true≢false}
use Rattle.std.specs.Option.{MatchOption, option_and_then, option_map, option_map_or, unwrap_or}
use Rattle.std.specs.Prelude.{slice_get}
use Rattle.std.specs.Str.{bytes_eq}
use Rattle.std.proofs.lemmas.Bool.{and_parts, and_right}
use Rattle.clap.specs.Lexer.{name_and_value}
use Rattle.clap.specs.Values.{read_as}
use Rattle.clap.specs.declared.builder.value_parser.Reading.{Reading}
use Rattle.clap.specs.Simple.{App, Shape, built, label_of, matches_of, names_of}
use Rattle.clap.specs.Faults.{fault_of}
use Rattle.clap.specs.Words.{matched_of, raw_values, rows_of}
use Rattle.clap.specs.declared.parser.matches.Found.{Found}
use Rattle.clap.proofs.OnLiterals.{clap_on_literals}
use Rattle.clap.proofs.WalkLemmas.{raw_values-rows}
use Rattle.clap.specs.Walk.{Row, all_of, finished, first_of, is_empty, nothing_held, one_of, row_text, rows_after, walk_from, with_default}
use Rattle.sm_words.specs.declared.option.Name.{Name}
use Rattle.sm_words.specs.declared.option.Name.TheVariants.{Port, Ladder, Turns, Bind, Journal, Players, From, Count, Tries, Refresh, Rounds}
use Rattle.sm_words.specs.declared.line.Place.TheVariants.{Free, Behind, Bare}
use Rattle.sm_words.specs.Options.{edge_options, has_value, play_options, serve_options}
use Rattle.sm_words.specs.Words.{Text, Read, EdgeTexts, PlayTexts, ServeTexts, at_most_one, edge_texts, edge_words_by, first_given, goes_on, is_dashed, joined, nothing, one_option, one_word, only_word, option_word, play_texts, play_words_by, read, read_from, serve_texts, value_of, value_or_empty, values_of}
use Rattle.sm_words.specs.Clapped.{are_plain, has_dashed_value, is_taken, words_app}
use Rattle.sm_words.proofs.Lexing.{Sort, dashes, given_named, id_of, long, named, other, single, single_gives_none, sort_of, with_value}
use Rattle.sm_words.proofs.Rows.{Rows}
use Rattle.sm_words.proofs.Walking.{ends, shape_with}
use Rattle.sm_words.proofs.Agreeing.{HoldsOne, IsIn, at_behind, at_free, cell, seen, words_seen}
use Rattle.sm_words.proofs.Finding.{Told, fault_passes, refused, rules_of, seen_at_end, told, words_built}

-- ---- words that aren't plain

pub record Blocks (options : List Name) (words : List Text) : Type 0 where
  pub free : read_from options words Free ≡ None
  pub behind : (o : Name) → read_from options words (Behind o) ≡ None

dashed_nothing : (v : Option Text) (g : Option Name) → option_map_or is_dashed v false ≡ true → option_word (with_value v g) ≡ None
dashed_nothing None g e = absurd (true≢false (sym e))
dashed_nothing (Some t) None e = refl
dashed_nothing (Some t) (Some o) e =
    ap (λ (b : Bool). cond (has_value o && not b) (Some (Free, one_option o t)) None) e ∙ ap (λ (b : Bool). cond b (Some (Free, one_option o t)) None) (and_right (has_value o) false refl)

option_onward : (v : Option Text) (g : Option Name) (options : List Name) (words : List Text) → Blocks options words
    → goes_on (option_word (with_value v g)) (λ p. read_from options words p) ≡ None
option_onward v None options words h = refl
option_onward None (Some o) options words h = go (has_value o)
  where
    go : (b : Bool) → goes_on (Some (cond b (Behind o, nothing) (Free, one_option o []))) (λ p. read_from options words p) ≡ None
    go true = ap (λ (q : Option Read). option_map (λ r. joined nothing r) q) (h.behind o)
    go false = ap (λ (q : Option Read). option_map (λ r. joined (one_option o []) r) q) h.free
option_onward (Some t) (Some o) options words h = go (has_value o && not (is_dashed t))
  where
    go : (b : Bool) → goes_on (cond b (Some (Free, one_option o t)) None) (λ p. read_from options words p) ≡ None
    go true = ap (λ (q : Option Read). option_map (λ r. joined (one_option o t) r) q) h.free
    go false = refl

long_block : (options : List Name) (x : ℕ) (xs : Text) (words : List Text) → are_plain ((45 ∷ 45 ∷ x ∷ xs) ∷ words) ≡ false → (are_plain words ≡ false → Blocks options words)
    → (b : Bool) → has_dashed_value (x ∷ xs) ≡ b → Blocks options ((45 ∷ 45 ∷ x ∷ xs) ∷ words)
long_block options x xs words e ih b d = record {
  free =
      ap (λ q. goes_on q (λ p. read_from options words p)) (at_free options (45 ∷ 45 ∷ x ∷ xs) ∙ ap option_word (given_named options (x ∷ xs)))
      ∙ go b d;
  behind = λ o. ap (λ q. goes_on q (λ p. read_from options words p)) (at_behind options o (45 ∷ 45 ∷ x ∷ xs));
}
  where
    go : (b : Bool) → has_dashed_value (x ∷ xs) ≡ b
        → goes_on (option_word (with_value (name_and_value (x ∷ xs)).1 (named options (name_and_value (x ∷ xs)).0))) (λ p. read_from options words p) ≡ None
    go true f =
        ap (λ q. goes_on q (λ p. read_from options words p)) (dashed_nothing (name_and_value (x ∷ xs)).1 (named options (name_and_value (x ∷ xs)).0) f)
    go false f =
        option_onward (name_and_value (x ∷ xs)).1 (named options (name_and_value (x ∷ xs)).0) options words
        (ih (sym (ap (λ (t : Bool). not t && are_plain words) f) ∙ e))

block : (options : List Name) (word : Text) (words : List Text) → are_plain (word ∷ words) ≡ false → (are_plain words ≡ false → Blocks options words) → Sort word → Blocks options (word ∷ words)
block options word words e ih (dashes d) = absurd (true≢false (ap (λ (t : Text). are_plain (t ∷ words)) (sym d) ∙ e))
block options word words e ih (long x xs d) =
    subst (λ (t : Text). Blocks options (t ∷ words)) (sym d) (long_block options x xs words (ap (λ (t : Text). are_plain (t ∷ words)) (sym d) ∙ e) ih (has_dashed_value (x ∷ xs)) refl)
block options word words e ih (single is) = record {
  free =
      ap (λ q. goes_on q (λ p. read_from options words p)) (at_free options word
      ∙ ap₂ (λ (a b : Bool). cond a (Some (Bare, nothing)) (cond b (option_word (first_given options word)) (Some (Free, one_word word)))) is.not_dashes is.dashed
      ∙ ap option_word (single_gives_none options word is));
  behind = λ o. ap (λ q. goes_on q (λ p. read_from options words p)) (at_behind options o word ∙ ap (λ (b : Bool). cond b None (Some (Free, one_option o word))) is.dashed);
}
block options word words e ih (other is) =
    let rest = ih (sym (ap₂ (λ (a b : Bool). a || (b && are_plain words)) is.no_dashes is.plain) ∙ e) in
    record {
      free =
          ap (λ q. goes_on q (λ p. read_from options words p)) (at_free options word
          ∙ ap₂ (λ (a b : Bool). cond a (Some (Bare, nothing)) (cond b (option_word (first_given options word)) (Some (Free, one_word word)))) is.no_dashes is.undashed)
          ∙ ap (λ (q : Option Read). option_map (λ r. joined (one_word word) r) q) rest.free;
      behind = λ o.
          ap (λ q. goes_on q (λ p. read_from options words p)) (at_behind options o word ∙ ap (λ (b : Bool). cond b None (Some (Free, one_option o word))) is.undashed)
          ∙ ap (λ (q : Option Read). option_map (λ r. joined (one_option o word) r) q) rest.free;
    }

blocks : (options : List Name) (words : List Text) → are_plain words ≡ false → Blocks options words
blocks options [] e = absurd (true≢false e)
blocks options (word ∷ words) e = block options word words e (blocks options words) (sort_of word)

-- ---- what the getters find

pub first_seen : (id : Text) (rows : Rows) → first_of id rows ≡ option_and_then (λ (q : List Text × Reading). slice_get q.0 0) (seen id rows)
first_seen id rows = go (find (λ (r : Row). bytes_eq r.id id) rows)
  where
    go : (o : Option Row) → option_and_then (λ (r : Row). slice_get r.values 0) o ≡ option_and_then (λ (q : List Text × Reading). slice_get q.0 0) (option_map cell o)
    go None = refl
    go (Some r) = refl

pub all_seen : (id : Text) (rows : Rows) → all_of id rows ≡ option_map (λ (q : List Text × Reading). q.0) (seen id rows)
all_seen id rows = go (find (λ (r : Row). bytes_eq r.id id) rows)
  where
    go : (o : Option Row) → option_map (λ (r : Row). r.values) o ≡ option_map (λ (q : List Text × Reading). q.0) (option_map cell o)
    go None = refl
    go (Some r) = refl

pub one_seen : (id : Text) (rows : Rows) → one_of id rows ≡ option_and_then (λ (q : List Text × Reading). option_map (read_as q.1) (slice_get q.0 0)) (seen id rows)
one_seen id rows = go (find (λ (r : Row). bytes_eq r.id id) rows)
  where
    go : (o : Option Row) → option_and_then row_text o ≡ option_and_then (λ (q : List Text × Reading). option_map (read_as q.1) (slice_get q.0 0)) (option_map cell o)
    go None = refl
    go (Some r) = refl

value_by : (o : Name) (values : List Text) (s : Option (List Text × Reading)) → has_value o ≡ true → HoldsOne o values s
    → at_most_one values ≡ Some (option_and_then (λ (q : List Text × Reading). slice_get q.0 0) s)
value_by o values s valued (inl none) = ap₂ (λ (l : List Text) q. at_most_one l) none.0 none.1 ∙ sym (ap (λ q. Some (option_and_then (λ (p : List Text × Reading). slice_get p.0 0) q)) none.1)
value_by o values s valued (inr one) =
    ap at_most_one one.1
    ∙ sym (ap (λ q. Some (option_and_then (λ (p : List Text × Reading). slice_get p.0 0) q)) one.2 ∙ ap (λ (b : Bool). Some (Some (cond b one.0 (codes "true")))) valued)

-- the value of an option that takes one
pub value_found : (o : Name) (options : List Name) (words : List Text) (rows : Rows) (t : Told options words rows) → has_value o ≡ true → bytes_eq (codes "ladder") (id_of o) ≡ false
    → value_of o t.line ≡ Some (first_of (id_of o) rows)
value_found o options words rows t valued differs =
    value_by o (values_of o t.line.given) (seen (id_of o) t.last) valued (t.agrees.options o)
    ∙ sym (ap (λ (l : Rows). Some (first_of (id_of o) l)) t.found
    ∙ ap (λ (q : Option Text). Some q) (first_seen (id_of o) (fold with_default t.last (rules_of options)))
    ∙ ap (λ q. Some (option_and_then (λ (p : List Text × Reading). slice_get p.0 0) q)) (seen_at_end options (id_of o) t.last differs))

words_by : (words : List Text) → unwrap_or (option_map (λ (q : List Text × Reading). q.0) (words_seen words)) [] ≡ words
words_by [] = refl
words_by (w ∷ ws) = refl

-- the words that are no options
pub words_found : (options : List Name) (words : List Text) (rows : Rows) (t : Told options words rows) → unwrap_or (all_of (codes "WORDS") rows) [] ≡ t.line.words
words_found options words rows t =
    ap (λ (l : Rows). unwrap_or (all_of (codes "WORDS") l) []) t.found
    ∙ ap (λ (q : Option (List Text)). unwrap_or q []) (all_seen (codes "WORDS") (fold with_default t.last (rules_of options)))
    ∙ ap (λ q. unwrap_or (option_map (λ (p : List Text × Reading). p.0) q) []) (seen_at_end options (codes "WORDS") t.last refl ∙ t.agrees.words)
    ∙ words_by t.line.words

-- ---- an option that stands twice

named_value : (r : Read) (o name : Name) → o ≡ name → value_of o r ≡ None → value_of name r ≡ None
named_value r o name same e = ap (λ (m : Name). value_of m r) (sym same) ∙ e

abbrev Value : Type 0
Value = Option (Option Text)

abbrev serve_by_values : Value → Value → Value → Value → Value → Value → List Text → Option ServeTexts
serve_by_values port ladder turns bind journal players words =
    option_and_then (λ port.
    option_and_then (λ ladder.
    option_and_then (λ turns.
    option_and_then (λ bind.
    option_and_then (λ journal.
    option_and_then (λ players.
    option_map (λ store. record { port = port; ladder = is_some ladder; turns = turns; bind = bind; journal = journal; players = players; store = store })
    (only_word words))
    (option_and_then value_or_empty players))
    (option_and_then value_or_empty journal))
    (option_and_then value_or_empty bind))
    turns)
    ladder)
    (option_and_then (λ port. port) port)

no_port : (v1 v2 v3 v4 v5 : Value) (ws : List Text) → serve_by_values None v1 v2 v3 v4 v5 ws ≡ None
no_port v1 v2 v3 v4 v5 ws = refl

no_ladder : (v0 v2 v3 v4 v5 : Value) (ws : List Text) → serve_by_values v0 None v2 v3 v4 v5 ws ≡ None
no_ladder None v2 v3 v4 v5 ws = refl
no_ladder (Some None) v2 v3 v4 v5 ws = refl
no_ladder (Some (Some x0)) v2 v3 v4 v5 ws = refl

no_turns : (v0 v1 v3 v4 v5 : Value) (ws : List Text) → serve_by_values v0 v1 None v3 v4 v5 ws ≡ None
no_turns None v1 v3 v4 v5 ws = refl
no_turns (Some None) v1 v3 v4 v5 ws = refl
no_turns (Some (Some x0)) None v3 v4 v5 ws = refl
no_turns (Some (Some x0)) (Some y1) v3 v4 v5 ws = refl

no_bind : (v0 v1 v2 v4 v5 : Value) (ws : List Text) → serve_by_values v0 v1 v2 None v4 v5 ws ≡ None
no_bind None v1 v2 v4 v5 ws = refl
no_bind (Some None) v1 v2 v4 v5 ws = refl
no_bind (Some (Some x0)) None v2 v4 v5 ws = refl
no_bind (Some (Some x0)) (Some y1) None v4 v5 ws = refl
no_bind (Some (Some x0)) (Some y1) (Some y2) v4 v5 ws = refl

no_journal : (v0 v1 v2 v3 v5 : Value) (ws : List Text) → serve_by_values v0 v1 v2 v3 None v5 ws ≡ None
no_journal None v1 v2 v3 v5 ws = refl
no_journal (Some None) v1 v2 v3 v5 ws = refl
no_journal (Some (Some x0)) None v2 v3 v5 ws = refl
no_journal (Some (Some x0)) (Some y1) None v3 v5 ws = refl
no_journal (Some (Some x0)) (Some y1) (Some y2) None v5 ws = refl
no_journal (Some (Some x0)) (Some y1) (Some y2) (Some (Some [])) v5 ws = refl
no_journal (Some (Some x0)) (Some y1) (Some y2) (Some None) v5 ws = refl
no_journal (Some (Some x0)) (Some y1) (Some y2) (Some (Some (c3 ∷ cs3))) v5 ws = refl

no_players : (v0 v1 v2 v3 v4 : Value) (ws : List Text) → serve_by_values v0 v1 v2 v3 v4 None ws ≡ None
no_players None v1 v2 v3 v4 ws = refl
no_players (Some None) v1 v2 v3 v4 ws = refl
no_players (Some (Some x0)) None v2 v3 v4 ws = refl
no_players (Some (Some x0)) (Some y1) None v3 v4 ws = refl
no_players (Some (Some x0)) (Some y1) (Some y2) None v4 ws = refl
no_players (Some (Some x0)) (Some y1) (Some y2) (Some (Some [])) v4 ws = refl
no_players (Some (Some x0)) (Some y1) (Some y2) (Some None) None ws = refl
no_players (Some (Some x0)) (Some y1) (Some y2) (Some None) (Some (Some [])) ws = refl
no_players (Some (Some x0)) (Some y1) (Some y2) (Some None) (Some None) ws = refl
no_players (Some (Some x0)) (Some y1) (Some y2) (Some None) (Some (Some (c4 ∷ cs4))) ws = refl
no_players (Some (Some x0)) (Some y1) (Some y2) (Some (Some (c3 ∷ cs3))) None ws = refl
no_players (Some (Some x0)) (Some y1) (Some y2) (Some (Some (c3 ∷ cs3))) (Some (Some [])) ws = refl
no_players (Some (Some x0)) (Some y1) (Some y2) (Some (Some (c3 ∷ cs3))) (Some None) ws = refl
no_players (Some (Some x0)) (Some y1) (Some y2) (Some (Some (c3 ∷ cs3))) (Some (Some (c4 ∷ cs4))) ws = refl

pub serve_twice : (r : Read) (o : Name) → IsIn o serve_options → value_of o r ≡ None → serve_texts r ≡ None
serve_twice r o (inl p) e =
    ap (λ (v : Value). serve_by_values v (value_of Ladder r) (value_of Turns r) (value_of Bind r) (value_of Journal r) (value_of Players r) r.words) (named_value r o Port p e)
    ∙ no_port (value_of Ladder r) (value_of Turns r) (value_of Bind r) (value_of Journal r) (value_of Players r) r.words
serve_twice r o (inr (inl p)) e =
    ap (λ (v : Value). serve_by_values (value_of Port r) v (value_of Turns r) (value_of Bind r) (value_of Journal r) (value_of Players r) r.words) (named_value r o Ladder p e)
    ∙ no_ladder (value_of Port r) (value_of Turns r) (value_of Bind r) (value_of Journal r) (value_of Players r) r.words
serve_twice r o (inr (inr (inl p))) e =
    ap (λ (v : Value). serve_by_values (value_of Port r) (value_of Ladder r) v (value_of Bind r) (value_of Journal r) (value_of Players r) r.words) (named_value r o Turns p e)
    ∙ no_turns (value_of Port r) (value_of Ladder r) (value_of Bind r) (value_of Journal r) (value_of Players r) r.words
serve_twice r o (inr (inr (inr (inl p)))) e =
    ap (λ (v : Value). serve_by_values (value_of Port r) (value_of Ladder r) (value_of Turns r) v (value_of Journal r) (value_of Players r) r.words) (named_value r o Bind p e)
    ∙ no_bind (value_of Port r) (value_of Ladder r) (value_of Turns r) (value_of Journal r) (value_of Players r) r.words
serve_twice r o (inr (inr (inr (inr (inl p))))) e =
    ap (λ (v : Value). serve_by_values (value_of Port r) (value_of Ladder r) (value_of Turns r) (value_of Bind r) v (value_of Players r) r.words) (named_value r o Journal p e)
    ∙ no_journal (value_of Port r) (value_of Ladder r) (value_of Turns r) (value_of Bind r) (value_of Players r) r.words
serve_twice r o (inr (inr (inr (inr (inr (inl p)))))) e =
    ap (λ (v : Value). serve_by_values (value_of Port r) (value_of Ladder r) (value_of Turns r) (value_of Bind r) (value_of Journal r) v r.words) (named_value r o Players p e)
    ∙ no_players (value_of Port r) (value_of Ladder r) (value_of Turns r) (value_of Bind r) (value_of Journal r) r.words
serve_twice r o (inr (inr (inr (inr (inr (inr none)))))) e = absurd none

abbrev play_by_values : Value → Value → Value → Value → List Text → Option PlayTexts
play_by_values from count tries refresh words =
    option_and_then (λ from. option_and_then (λ count. option_and_then (λ tries. option_and_then (λ refresh. play_words_by words from count tries refresh) refresh) tries) count) from

play_no_from : (v1 v2 v3 : Value) (ws : List Text) → play_by_values None v1 v2 v3 ws ≡ None
play_no_from v1 v2 v3 ws = refl

play_no_count : (v0 v2 v3 : Value) (ws : List Text) → play_by_values v0 None v2 v3 ws ≡ None
play_no_count None v2 v3 ws = refl
play_no_count (Some y0) v2 v3 ws = refl

play_no_tries : (v0 v1 v3 : Value) (ws : List Text) → play_by_values v0 v1 None v3 ws ≡ None
play_no_tries None v1 v3 ws = refl
play_no_tries (Some y0) None v3 ws = refl
play_no_tries (Some y0) (Some y1) v3 ws = refl

play_no_refresh : (v0 v1 v2 : Value) (ws : List Text) → play_by_values v0 v1 v2 None ws ≡ None
play_no_refresh None v1 v2 ws = refl
play_no_refresh (Some y0) None v2 ws = refl
play_no_refresh (Some y0) (Some y1) None ws = refl
play_no_refresh (Some y0) (Some y1) (Some y2) ws = refl

pub play_twice : (r : Read) (o : Name) → IsIn o play_options → value_of o r ≡ None → play_texts r ≡ None
play_twice r o (inl p) e =
    ap (λ (v : Value). play_by_values v (value_of Count r) (value_of Tries r) (value_of Refresh r) r.words) (named_value r o From p e)
    ∙ play_no_from (value_of Count r) (value_of Tries r) (value_of Refresh r) r.words
play_twice r o (inr (inl p)) e =
    ap (λ (v : Value). play_by_values (value_of From r) v (value_of Tries r) (value_of Refresh r) r.words) (named_value r o Count p e)
    ∙ play_no_count (value_of From r) (value_of Tries r) (value_of Refresh r) r.words
play_twice r o (inr (inr (inl p))) e =
    ap (λ (v : Value). play_by_values (value_of From r) (value_of Count r) v (value_of Refresh r) r.words) (named_value r o Tries p e)
    ∙ play_no_tries (value_of From r) (value_of Count r) (value_of Refresh r) r.words
play_twice r o (inr (inr (inr (inl p)))) e =
    ap (λ (v : Value). play_by_values (value_of From r) (value_of Count r) (value_of Tries r) v r.words) (named_value r o Refresh p e)
    ∙ play_no_refresh (value_of From r) (value_of Count r) (value_of Tries r) r.words
play_twice r o (inr (inr (inr (inr none)))) e = absurd none

abbrev edge_by_values : Value → Value → Value → List Text → Option EdgeTexts
edge_by_values rounds tries journal words =
    option_and_then (λ rounds.
    option_and_then (λ tries.
    option_and_then (λ journal. edge_words_by words rounds tries journal)
    (option_and_then value_or_empty journal))
    tries)
    rounds

edge_no_rounds : (v1 v2 : Value) (ws : List Text) → edge_by_values None v1 v2 ws ≡ None
edge_no_rounds v1 v2 ws = refl

edge_no_tries : (v0 v2 : Value) (ws : List Text) → edge_by_values v0 None v2 ws ≡ None
edge_no_tries None v2 ws = refl
edge_no_tries (Some y0) v2 ws = refl

edge_no_journal : (v0 v1 : Value) (ws : List Text) → edge_by_values v0 v1 None ws ≡ None
edge_no_journal None v1 ws = refl
edge_no_journal (Some y0) None ws = refl
edge_no_journal (Some y0) (Some y1) ws = refl

pub edge_twice : (r : Read) (o : Name) → IsIn o edge_options → value_of o r ≡ None → edge_texts r ≡ None
edge_twice r o (inl p) e =
    ap (λ (v : Value). edge_by_values v (value_of Tries r) (value_of Journal r) r.words) (named_value r o Rounds p e)
    ∙ edge_no_rounds (value_of Tries r) (value_of Journal r) r.words
edge_twice r o (inr (inl p)) e =
    ap (λ (v : Value). edge_by_values (value_of Rounds r) v (value_of Journal r) r.words) (named_value r o Tries p e)
    ∙ edge_no_tries (value_of Rounds r) (value_of Journal r) r.words
edge_twice r o (inr (inr (inl p))) e =
    ap (λ (v : Value). edge_by_values (value_of Rounds r) (value_of Tries r) v r.words) (named_value r o Journal p e)
    ∙ edge_no_journal (value_of Rounds r) (value_of Tries r) r.words
edge_twice r o (inr (inr (inr none))) e = absurd none

-- ---- what is taken, and what is not

none_read : {A : Type 0} (texts : Read → Option A) (o : Option Read) → ((r : Read) → o ≡ Some r → texts r ≡ None) → option_and_then texts o ≡ None
none_read texts None h = refl
none_read texts (Some r) h = h r refl

module _ (app : App) (name : Text) (options : List Name) (top : (built app).top ≡ shape_with name (rules_of options)) (subs : (built app).subs ≡ []) (bare : app.top.no_binary_name ≡ true) where
  matches_is : (words : List Text) → matches_of app words ≡ finished (rules_of options) (ends name (rules_of options) (walk_from nothing_held) words).held
  matches_is words =
      ap (λ (ws : List Text). rows_after (built app).top.rules (names_of (built app)) ws) (ap (λ (b : Bool). cond b words (drop 1 words)) bare)
      ∙ ap₂ (λ (s : Shape) (l : List Shape). rows_after s.rules (map label_of l) words) top subs

  pub taken_told : (words : List Text) → is_taken app words ≡ true → Told options words (matches_of app words)
  taken_told words e =
      let parts = and_parts (are_plain words) (is_empty (fault_of app words)) e in
      subst (λ (rows : Rows). Told options words rows) (sym (matches_is words)) (told name options words parts.0 (sym (fault_passes app name options words top subs bare) ∙ parts.1))

  pub refused_none : {A : Type 0} (texts : Read → Option A) → ((r : Read) (o : Name) → IsIn o options → value_of o r ≡ None → texts r ≡ None)
      → (words : List Text) → is_taken app words ≡ false → option_and_then texts (read options words) ≡ None
  refused_none texts twice words e = go (are_plain words) refl
    where
      go : (b : Bool) → are_plain words ≡ b → option_and_then texts (read options words) ≡ None
      go false f = ap (λ q. option_and_then texts q) (blocks options words f).free
      go true f =
          let unwalked = sym (fault_passes app name options words top subs bare) ∙ (sym (ap (λ (b : Bool). b && is_empty (fault_of app words)) f) ∙ e) in
          none_read texts (read options words) (λ r is. let again = refused name options words f unwalked r is in twice r again.0 again.1 again.2)

-- ---- serve

-- by what is found of its options, and the other words
abbrev pub serve_from : Option Text → Bool → Option Text → Option Text → Option Text → Option Text → List Text → Option ServeTexts
serve_from port ladder turns bind journal players words =
    option_and_then (λ port.
    option_and_then (λ bind.
    option_and_then (λ journal.
    option_and_then (λ players.
    option_map (λ store. record { port = port; ladder = ladder; turns = turns; bind = bind; journal = journal; players = players; store = store })
    (only_word words))
    (value_or_empty players))
    (value_or_empty journal))
    (value_or_empty bind))
    port

pub serve_line : (r : Read) (port ladder turns bind journal players : Option Text) → value_of Port r ≡ Some port → value_of Ladder r ≡ Some ladder → value_of Turns r ≡ Some turns
    → value_of Bind r ≡ Some bind → value_of Journal r ≡ Some journal → value_of Players r ≡ Some players
    → serve_texts r ≡ serve_from port (is_some ladder) turns bind journal players r.words
serve_line r port ladder turns bind journal players p l t b j q = rw (p, l, t, b, j, q) refl

-- ---- a command that takes words alone

words_subs : (built words_app).subs ≡ []
unfolding clap_on_literals
words_subs = refl

pub words_none : {A : Type 0} (texts : List Text → Option A) (app : App) (words : List Text) → app ≡ words_app → is_taken app words ≡ false
    → None ≡ option_and_then (λ (r : Read). texts r.words) (read [] words)
words_none texts app words same e =
    sym (refused_none words_app (codes "words") [] words_built words_subs refl (λ (r : Read). texts r.words) (λ r o none f. absurd none) words
    (ap (λ (a : App). is_taken a words) (sym same) ∙ e))

-- the words that are found are those that are read
pub words_told : {A : Type 0} (texts : List Text → Option A) (app : App) (words all : List Text) (f : Found) → app ≡ words_app
    → (is_taken app words ≡ true) × (rows_of f ≡ matches_of app words) → all ≡ unwrap_or (option_map raw_values (matched_of f (codes "WORDS"))) []
    → texts all ≡ option_and_then (λ (r : Read). texts r.words) (read [] words)
words_told texts app words all f same taken found =
    let t = taken_told words_app (codes "words") [] words_built words_subs refl words (ap (λ (a : App). is_taken a words) (sym same) ∙ taken.0) in
    let rows = taken.1 ∙ ap (λ (a : App). matches_of a words) same in
    ap texts (found ∙ ap (λ (o : Option (List Text)). unwrap_or o []) (raw_values-rows f (codes "WORDS")) ∙ ap (λ (l : List Row). unwrap_or (all_of (codes "WORDS") l) []) rows
    ∙ words_found [] words (matches_of words_app words) t)
    ∙ sym (ap (λ (o : Option Read). option_and_then (λ (r : Read). texts r.words) o) t.is)

pub given_some : {A : Type 0} (o : Option A) (a : A) (P : Type 0) (Q : A → Type 0) → o ≡ Some a → MatchOption o P Q → Q a
given_some {A = A} o a P Q e h = subst (λ (q : Option A). MatchOption q P Q) e h
