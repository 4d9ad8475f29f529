-- How `clap` walks over the words behind a command, beside how they are read.
use Rattle.std.proofs.Common.{◌≡◌, ◌∙◌, codes, ◌&&◌, ◌||◌, ℕ, Bool, true, false, cond, not, List, [], ◌∷◌, fold, Option, Some, None, is_some, IfSome, refl, sym, ap, ap₂, subst, true≢false}
use Rattle.std.specs.Option.{option_and_then, option_map, option_map_or}
use Rattle.std.specs.Prelude.{nat_lt}
use Rattle.std.proofs.lemmas.Bool.{and_parts, and_right, not-true}
use Rattle.clap.specs.Lexer.{long_of, name_and_value}
use Rattle.clap.specs.Kinds.{Kinds, or_else}
use Rattle.clap.specs.Faults.{bundle_fault, check_fault, defaults_fault, flag_word_fault, level_fault, long_fault, option_fault, other_fault, positional_fault, react_fault, settle_fault, step_fault, stray_fault, turn_fault, use_fault, walk_fault, word_fault}
use Rattle.clap.specs.Simple.{Shape, new_shape}
use Rattle.clap.specs.Walk.{Held, Rule, Step, Waiting, Walk, after_flag, after_step, arg_by_id, arg_by_index, arg_by_long, finished, idle, is_pending, flag_met, long_met, long_or_other, most_values, next, option, option_met, option_word, pending_count, plain_word, nothing_held, positional, pushed, reacted, settled, settled_rows, short_or_plain, subcommand_met, subcommand_or_other, takes_several, takes_values, to_positional, trailing, used, used_by_id, value, walk_from, walked, word_met}
use Rattle.clap.specs.declared.error.kind.ErrorKind.TheVariants as kind
use Rattle.sm_words.specs.declared.option.Name.{Name}
use Rattle.sm_words.specs.declared.option.Name.TheVariants.{Port, Ladder, Turns, Bind, Journal, Players, From, Count, Tries, Refresh, Rounds}
use Rattle.sm_words.specs.declared.line.Place.{Place}
use Rattle.sm_words.specs.declared.line.Place.TheVariants.{Free, Behind, Bare}
use Rattle.sm_words.specs.Options.{has_value}
use Rattle.sm_words.specs.Words.{Text, first_given, is, is_dashed}
use Rattle.sm_words.specs.Clapped.{are_plain, has_dashed_value, is_plain}
use Rattle.sm_words.proofs.Lexing.{IsOther, Sort, dashes, given_named, id_of, long, named, other, single, sort_of, with_value}
use Rattle.sm_words.proofs.Rows.{passes, rule_for, use_once, Rows, words_part, word_used, option_used, option_read, rows_from}

-- ---- the command as it is built

abbrev pub shape_with : Text → List Rule → Shape
shape_with name rules = record (new_shape name) {
  rules = rules;
  no_binary_name = true;
  disable_help_flag = true;
  disable_help_subcommand = true;
  is_built = true;
}

-- an option that takes a value
pub record IsOpen (c : List Rule) (o : Name) : Type 0 where
  pub found : arg_by_id c (id_of o) ≡ Some (rule_for o)
  pub valued : has_value o ≡ true

-- the arguments of a command with these options
pub record Fits (options : List Name) (c : List Rule) : Type 0 where
  pub longs : (name : Text) → arg_by_long c name ≡ option_map rule_for (named options name)
  pub ids : (name : Text) (o : Name) → named options name ≡ Some o → arg_by_id c (id_of o) ≡ Some (rule_for o)
  pub words_found : arg_by_id c (codes "WORDS") ≡ Some words_part
  pub words_first : arg_by_index c 1 ≡ Some words_part

takes_for : (o : Name) → takes_values (rule_for o) ≡ has_value o
takes_for Port = refl
takes_for Ladder = refl
takes_for Turns = refl
takes_for Bind = refl
takes_for Journal = refl
takes_for Players = refl
takes_for From = refl
takes_for Count = refl
takes_for Tries = refl
takes_for Refresh = refl
takes_for Rounds = refl

-- a value is wanted, and no more than one
unvalued : (o : Name) (rows : Rows) → has_value o ≡ true → passes (use_fault false (rule_for o) [] rows) ≡ false
unvalued Port rows e = refl
unvalued Ladder rows e = absurd (true≢false (sym e))
unvalued Turns rows e = refl
unvalued Bind rows e = refl
unvalued Journal rows e = refl
unvalued Players rows e = refl
unvalued From rows e = refl
unvalued Count rows e = refl
unvalued Tries rows e = refl
unvalued Refresh rows e = refl
unvalued Rounds rows e = refl

full : (o : Name) (word : Text) → has_value o ≡ true → nat_lt (pending_count (rule_for o) (Some (id_of o, word ∷ []))) (most_values (rule_for o)) ≡ false
full Port word e = refl
full Ladder word e = absurd (true≢false (sym e))
full Turns word e = refl
full Bind word e = refl
full Journal word e = refl
full Players word e = refl
full From word e = refl
full Count word e = refl
full Tries word e = refl
full Refresh word e = refl
full Rounds word e = refl

abbrev is_open : Waiting → Bool
is_open (option id) = true
is_open idle = false
is_open positional = false

abbrev held : Option (Text × List Text) → Rows → Held
held p rows = record { rows = rows; pending = p; skip = 0 }

abbrev pub state : Waiting → Bool → Option (Text × List Text) → Rows → Walk
state waiting tail p rows = record { held = held p rows; waiting = waiting; position = 1; is_trailing = tail; stopped = None }

module _ (name : Text) (c : List Rule) where
  abbrev shape : Shape
  shape = shape_with name c

  abbrev pub ends : Walk → List Text → Walk
  ends w words = fold (walked c []) w words

  -- no step fails, nor does the use of what is pending behind the last
  abbrev pub is_walked : Walk → List Text → Bool
  is_walked w words = passes (walk_fault shape [] w words) && passes (settle_fault c false (ends w words).held)

  pub record Walks (w : Walk) (words : List Text) (o : Option Rows) : Type 0 where
    pub takes : is_walked w words ≡ is_some o
    pub rows : IfSome o (λ r. (settled c (ends w words).held).rows ≡ r)

  none_walks : (w : Walk) (words : List Text) → is_walked w words ≡ false → Walks w words None
  none_walks w words e = record { takes = e; rows = tt }

  at_word : (w : Walk) (word : Text) (words : List Text) → is_walked w (word ∷ words) ≡ (passes (turn_fault shape [] w word) && is_walked (walked c [] w word) words)
  unfolding walk_fault
  at_word w word words = split (turn_fault shape [] w word) (walk_fault shape [] (walked c [] w word) words)
    where
      split : (a b : Kinds) → (passes (or_else a b) && passes (settle_fault c false (ends (walked c [] w word) words).held))
          ≡ (passes a && (passes b && passes (settle_fault c false (ends (walked c [] w word) words).held)))
      split [] b = refl
      split (k ∷ ks) b = refl

  -- a word that fails, and one behind which the others are walked over
  fails_at : (w : Walk) (word : Text) (words : List Text) → passes (turn_fault shape [] w word) ≡ false → Walks w (word ∷ words) None
  fails_at w word words e = none_walks w (word ∷ words) (at_word w word words ∙ ap (λ (b : Bool). b && is_walked (walked c [] w word) words) e)

  goes_at : (w after : Walk) (word : Text) (words : List Text) (o : Option Rows) → passes (turn_fault shape [] w word) ≡ true → walked c [] w word ≡ after
      → Walks after words o → Walks w (word ∷ words) o
  goes_at w after word words o e is h =
      record {
        takes = at_word w word words ∙ ap (λ (b : Bool). b && is_walked (walked c [] w word) words) e ∙ ap (λ (v : Walk). is_walked v words) is ∙ h.takes;
        rows = subst (λ (v : Walk). IfSome o (λ r. (settled c (ends v words).held).rows ≡ r)) (sym is) h.rows;
      }

  step_at : (b : Bool) (w after : Walk) (word : Text) (words : List Text) (o : Option Rows) → passes (turn_fault shape [] w word) ≡ b → walked c [] w word ≡ after
      → Walks after words o → Walks w (word ∷ words) (cond b o None)
  step_at true w after word words o e is h = goes_at w after word words o e is h
  step_at false w after word words o e is h = fails_at w word words e

  same_rows : (w : Walk) (words : List Text) (a b : Option Rows) → a ≡ b → Walks w words a → Walks w words b
  same_rows w words a b e h = subst (λ (o : Option Rows). Walks w words o) e h

  -- ---- one word

  no_command : (waiting : Waiting) (word : Text) → subcommand_met [] waiting word ≡ None
  no_command idle word = refl
  no_command (option id) word = refl
  no_command positional word = refl

  -- the walk behind a word, by what the word is
  walked_by : (waiting : Waiting) (tail : Bool) (p : Option (Text × List Text)) (rows : Rows) (word : Text) (met : Held × Step)
      → word_met c [] tail waiting 1 word (held p rows) ≡ met
      → walked c [] (state waiting tail p rows) word ≡ after_step c word (state waiting tail p rows) met.0 met.1
  unfolding walked
  walked_by waiting tail p rows word met e = ap (λ (m : Held × Step). after_step c word (state waiting tail p rows) m.0 m.1) e

  fault_by : (waiting : Waiting) (tail : Bool) (p : Option (Text × List Text)) (rows : Rows) (word : Text) (met : Held × Step) (kinds : Kinds)
      → word_fault shape [] tail waiting word (held p rows) ≡ kinds → word_met c [] tail waiting 1 word (held p rows) ≡ met
      → turn_fault shape [] (state waiting tail p rows) word ≡ or_else kinds (step_fault shape 1 met.0 met.1)
  fault_by waiting tail p rows word met kinds f e =
      ap₂ (λ (k : Kinds) (m : Held × Step). or_else k (step_fault shape 1 m.0 m.1)) f e

  -- a word that begins with no dash
  other_met : (waiting : Waiting) (word : Text) (h : Held) → IsOther word → word_met c [] false waiting 1 word h ≡ plain_word c waiting word h
  other_met waiting word h o =
      ap (λ m. subcommand_or_other c m waiting 1 word h) (no_command waiting word)
      ∙ ap (λ (b : Bool). cond b (h, trailing 1) (long_or_other c waiting word (long_of word) h)) o.no_dashes
      ∙ ap (λ l. long_or_other c waiting word l h) o.no_long
      ∙ ap (λ f. short_or_plain c waiting word f h) o.no_short

  other_fault_is : (waiting : Waiting) (word : Text) (h : Held) → IsOther word → word_fault shape [] false waiting word h ≡ []
  other_fault_is waiting word h o =
      ap (λ m. other_fault shape m word h) (no_command waiting word)
      ∙ ap (λ (b : Bool). cond b [] (flag_word_fault c false (long_of word) word h)) o.no_dashes
      ∙ ap (λ l. flag_word_fault c false l word h) o.no_long
      ∙ ap (λ (f : Option Text). option_map_or (λ flags. bundle_fault c false flags h) f []) o.no_short

  -- a word that begins with two dashes, and is more
  long_met_by : (waiting : Waiting) (x : ℕ) (xs : Text) (h : Held) (a : Option Rule) → arg_by_long c (name_and_value (x ∷ xs)).0 ≡ a
      → word_met c [] false waiting 1 (45 ∷ 45 ∷ x ∷ xs) h
      ≡ after_flag c waiting (45 ∷ 45 ∷ x ∷ xs) (long_met c a (name_and_value (x ∷ xs)).1 h).0 (long_met c a (name_and_value (x ∷ xs)).1 h).1
  long_met_by waiting x xs h a e =
      ap (λ m. subcommand_or_other c m waiting 1 (45 ∷ 45 ∷ x ∷ xs) h) (no_command waiting (45 ∷ 45 ∷ x ∷ xs))
      ∙ ap (λ (o : Option Rule). after_flag c waiting (45 ∷ 45 ∷ x ∷ xs) (long_met c o (name_and_value (x ∷ xs)).1 h).0 (long_met c o (name_and_value (x ∷ xs)).1 h).1) e

  long_fault_by : (waiting : Waiting) (x : ℕ) (xs : Text) (h : Held) (a : Option Rule) → arg_by_long c (name_and_value (x ∷ xs)).0 ≡ a
      → word_fault shape [] false waiting (45 ∷ 45 ∷ x ∷ xs) h ≡ long_fault c false a (name_and_value (x ∷ xs)).1 h
  long_fault_by waiting x xs h a e =
      ap (λ m. other_fault shape m (45 ∷ 45 ∷ x ∷ xs) h) (no_command waiting (45 ∷ 45 ∷ x ∷ xs))
      ∙ ap (λ (o : Option Rule). long_fault c false o (name_and_value (x ∷ xs)).1 h) e

  first_passes : (a b : Kinds) → passes a ≡ false → passes (or_else a b) ≡ false
  first_passes [] b e = absurd (true≢false e)
  first_passes (k ∷ ks) b e = refl

  -- whatever it is, it fails where the use of what is pending does
  long_doomed : (h : Held) (a : Option Rule) (v : Option Text) → passes (settle_fault c false h) ≡ false → passes (long_fault c false a v h) ≡ false
  long_doomed h None v e = refl
  long_doomed h (Some a) v e = go (takes_values a) v
    where
      go : (b : Bool) (v : Option Text)
          → passes (cond b (option_fault c false a v h) (cond (is_some v) (kind.TooManyValues ∷ []) (react_fault c false a [] h))) ≡ false
      go true None = e
      go true (Some v) = first_passes (settle_fault c false h) _ e
      go false None = first_passes (settle_fault c false h) _ e
      go false (Some v) = refl

  abbrev from_pending : Option (Text × List Text) → Rows → (Rows → Option Rows) → Option Rows
  from_pending p rows more = cond (passes (settle_fault c false (held p rows))) (more (settled_rows c p rows)) None

  cond_then : (b : Bool) (r : Rows) (more : Rows → Option Rows) → cond b (more r) None ≡ option_and_then more (cond b (Some r) None)
  cond_then true r more = refl
  cond_then false r more = refl

  cond_none : (b : Bool) → ◌≡◌ {A = Option Rows} (cond b None None) None
  cond_none true = refl
  cond_none false = refl

  -- what is pending is used once
  pending_used : (a : Rule) (values : List Text) (rows : Rows) (more : Rows → Option Rows) → arg_by_id c a.id ≡ Some a
      → from_pending (Some (a.id, values)) rows more ≡ option_and_then more (use_once a values rows)
  pending_used a values rows more e =
      ap (λ (o : Option Rule). cond (passes (option_map_or (λ b. use_fault false b values rows) o [])) (more (used_by_id o values rows)) None) e
      ∙ cond_then (passes (use_fault false a values rows)) (used a values rows) more

  plain_closed : (waiting : Waiting) (word : Text) (h : Held) → is_open waiting ≡ false → plain_word c waiting word h ≡ (h, value)
  plain_closed idle word h e = refl
  plain_closed positional word h e = refl
  plain_closed (option id) word h e = absurd (true≢false e)

  nil_walks : (w : Walk) → Walks w [] (cond (passes (settle_fault c false w.held)) (Some (settled c w.held).rows) None)
  unfolding walk_fault
  nil_walks w = record { takes = some_if (passes (settle_fault c false w.held)); rows = rows_if (passes (settle_fault c false w.held)) }
    where
      some_if : (b : Bool) → b ≡ is_some (cond b (Some (settled c w.held).rows) None)
      some_if true = refl
      some_if false = refl

      rows_if : (b : Bool) → IfSome (cond b (Some (settled c w.held).rows) None) (λ r. (settled c w.held).rows ≡ r)
      rows_if true = refl
      rows_if false = tt

  module _ (options : List Name) (fits : Fits options c) where
    abbrev reads : List Text → Place → Rows → Option Rows
    reads = rows_from options

    -- ---- a word that is no option

    or_false : (b : Bool) → (b || false) ≡ b
    or_false true = refl
    or_false false = refl

    alone : (p : Option (Text × List Text)) → (is_pending words_part p && takes_several words_part) ≡ false
    alone p = and_right (is_pending words_part p) (takes_several words_part) refl

    part_walked : (waiting : Waiting) (tail : Bool) (p : Option (Text × List Text)) (rows : Rows) (word : Text)
        → after_step c word (state waiting tail p rows) (held p rows) value ≡ state positional tail (Some (codes "WORDS", word ∷ [])) (settled_rows c p rows)
    part_walked waiting tail p rows word =
        ap (λ (a : Option Rule). to_positional c a word (state waiting tail p rows) (held p rows)) fits.words_first
        ∙ ap₂ (λ (b t : Bool). record {
          held = pushed (codes "WORDS") word (cond b (held p rows) (settled c (held p rows)));
          waiting = positional;
          position = 1;
          is_trailing = t;
          stopped = None;
        }) (alone p) (or_false tail)

    part_fault : (p : Option (Text × List Text)) (rows : Rows) → step_fault shape 1 (held p rows) value ≡ settle_fault c false (held p rows)
    part_fault p rows =
        ap (λ (a : Option Rule). option_map_or (λ b. positional_fault c false b (held p rows)) a (stray_fault shape)) fits.words_first
        ∙ ap (λ (b : Bool). cond b [] (settle_fault c false (held p rows))) (alone p)

    word_walks : (tail : Bool) (waiting : Waiting) (p : Option (Text × List Text)) (rows : Rows) (word : Text) (words : List Text) (more : Rows → Option Rows)
        → word_met c [] tail waiting 1 word (held p rows) ≡ (held p rows, value) → word_fault shape [] tail waiting word (held p rows) ≡ []
        → Walks (state positional tail (Some (codes "WORDS", word ∷ [])) (settled_rows c p rows)) words (from_pending (Some (codes "WORDS", word ∷ [])) (settled_rows c p rows) more)
        → Walks (state waiting tail p rows) (word ∷ words) (from_pending p rows (λ r. word_used word r more))
    word_walks tail waiting p rows word words more met fault rest =
        let w : Walk = state waiting tail p rows in
        let turn = fault_by waiting tail p rows word (held p rows, value) [] fault met in
        same_rows w (word ∷ words) _ _
        (ap (λ (o : Option Rows). cond (passes (settle_fault c false (held p rows))) o None) (pending_used words_part (word ∷ []) (settled_rows c p rows) more fits.words_found))
        (step_at (passes (settle_fault c false (held p rows))) w _ word words _ (ap passes (turn ∙ part_fault p rows))
        (walked_by waiting tail p rows word (held p rows, value) met ∙ part_walked waiting tail p rows word) rest)

    -- ---- the words in turn

    record Claims (words : List Text) : Type 0 where
      pub free : (waiting : Waiting) (p : Option (Text × List Text)) (rows : Rows) → is_open waiting ≡ false → are_plain words ≡ true
          → Walks (state waiting false p rows) words (from_pending p rows (reads words Free))
      pub bare : (waiting : Waiting) (p : Option (Text × List Text)) (rows : Rows)
          → Walks (state waiting true p rows) words (from_pending p rows (reads words Bare))
      pub behind : (o : Name) (rows : Rows) → IsOpen c o → are_plain words ≡ true
          → Walks (state (option (id_of o)) false (Some (id_of o, [])) rows) words (reads words (Behind o) rows)

    -- an option that awaits its value
    open_fails : (o : Name) (rows : Rows) → IsOpen c o → passes (settle_fault c false (held (Some (id_of o, [])) rows)) ≡ false
    open_fails o rows is =
        ap (λ (a : Option Rule). passes (option_map_or (λ b. use_fault false b [] rows) a [])) is.found ∙ unvalued o rows is.valued

    bare_next : (word : Text) (words : List Text) → Claims words → (waiting : Waiting) (p : Option (Text × List Text)) (rows : Rows)
        → Walks (state waiting true p rows) (word ∷ words) (from_pending p rows (reads (word ∷ words) Bare))
    bare_next word words ih waiting p rows =
        word_walks true waiting p rows word words (reads words Bare) refl refl (ih.bare positional (Some (codes "WORDS", word ∷ [])) (settled_rows c p rows))

    -- `--`
    dashes_next : (words : List Text) (waiting : Waiting) (p : Option (Text × List Text)) (rows : Rows) (o : Option Rows)
        → Walks (state waiting true p rows) words o → Walks (state waiting false p rows) ((45 ∷ 45 ∷ []) ∷ words) o
    dashes_next words waiting p rows o h =
        let word : Text = 45 ∷ 45 ∷ [] in
        let met : word_met c [] false waiting 1 word (held p rows) ≡ (held p rows, trailing 1) =
        ap (λ m. subcommand_or_other c m waiting 1 word (held p rows)) (no_command waiting word) in
        let fault : word_fault shape [] false waiting word (held p rows) ≡ [] = ap (λ m. other_fault shape m word (held p rows)) (no_command waiting word) in
        goes_at (state waiting false p rows) (state waiting true p rows) word words o
        (ap passes (fault_by waiting false p rows word (held p rows, trailing 1) [] fault met))
        (walked_by waiting false p rows word (held p rows, trailing 1) met) h

    -- a word with no dash, among options and other words
    other_next : (word : Text) (words : List Text) → Claims words → IsOther word → (waiting : Waiting) (p : Option (Text × List Text)) (rows : Rows)
        → is_open waiting ≡ false → are_plain words ≡ true → Walks (state waiting false p rows) (word ∷ words) (from_pending p rows (reads (word ∷ words) Free))
    other_next word words ih is waiting p rows closed plain =
        let here : (r : Rows) → reads (word ∷ words) Free r ≡ word_used word r (reads words Free) = λ r.
        ap (λ (b : Bool). cond b (reads words Bare r) (cond (is_dashed word)
        (option_read (first_given options word) r (λ o. reads words (Behind o)) (reads words Free)) (word_used word r (reads words Free)))) is.no_dashes
        ∙ ap (λ (b : Bool). cond b (option_read (first_given options word) r (λ o. reads words (Behind o)) (reads words Free))
        (word_used word r (reads words Free))) is.undashed in
        same_rows (state waiting false p rows) (word ∷ words) _ _
        (ap (λ (o : Option Rows). cond (passes (settle_fault c false (held p rows))) o None) (sym (here (settled_rows c p rows))))
        (word_walks false waiting p rows word words (reads words Free)
        (other_met waiting word (held p rows) is ∙ plain_closed waiting word (held p rows) closed) (other_fault_is waiting word (held p rows) is)
        (ih.free positional (Some (codes "WORDS", word ∷ [])) (settled_rows c p rows) refl plain))

    -- a word with no dash, behind an option
    value_next : (word : Text) (words : List Text) → Claims words → IsOther word → (o : Name) (rows : Rows) → IsOpen c o → are_plain words ≡ true
        → Walks (state (option (id_of o)) false (Some (id_of o, [])) rows) (word ∷ words) (reads (word ∷ words) (Behind o) rows)
    value_next word words ih is o rows known plain =
        let p : Option (Text × List Text) = Some (id_of o, []) in
        let w : Walk = state (option (id_of o)) false p rows in
        let met : word_met c [] false (option (id_of o)) 1 word (held p rows) ≡ (held (Some (id_of o, word ∷ [])) rows, next idle) =
        other_met (option (id_of o)) word (held p rows) is
        ∙ ap (λ (a : Option Rule). ((option_word a (id_of o) word (held p rows)).0, next (option_word a (id_of o) word (held p rows)).1)) known.found
        ∙ ap (λ (b : Bool). (held (Some (id_of o, word ∷ [])) rows, next (cond b (option (id_of o)) idle))) (full o word known.valued) in
        let used_so : reads (word ∷ words) (Behind o) rows ≡ option_and_then (reads words Free) (use_once (rule_for o) (word ∷ []) rows) =
        ap (λ (b : Bool). cond b None (option_used o word rows (reads words Free))) is.undashed
        ∙ ap (λ (b : Bool). option_and_then (reads words Free) (use_once (rule_for o) (cond b (word ∷ []) []) rows)) known.valued in
        same_rows w (word ∷ words) _ _ (pending_used (rule_for o) (word ∷ []) rows (reads words Free) known.found ∙ sym used_so)
        (goes_at w (state idle false (Some (id_of o, word ∷ [])) rows) word words _
        (ap passes (fault_by (option (id_of o)) false p rows word _ [] (other_fault_is (option (id_of o)) word (held p rows) is) met))
        (walked_by (option (id_of o)) false p rows word _ met)
        (ih.free idle (Some (id_of o, word ∷ [])) rows refl plain))

    -- ---- an option

    passes_alone : (a : Kinds) → passes (or_else a []) ≡ passes a
    passes_alone [] = refl
    passes_alone (k ∷ ks) = refl

    react_rows : (a b : Kinds) (r : Rows) (more : Rows → Option Rows)
        → cond (passes (or_else a b)) (more r) None ≡ cond (passes a) (option_and_then more (cond (passes b) (Some r) None)) None
    react_rows [] b r more = cond_then (passes b) r more
    react_rows (k ∷ ks) b r more = refl

    -- a use with these values, at once
    reacts : (word : Text) (words : List Text) → Claims words → (waiting : Waiting) (p : Option (Text × List Text)) (rows : Rows) (a : Rule) (values : List Text)
        → word_met c [] false waiting 1 word (held p rows) ≡ (reacted c a values (held p rows), next idle)
        → word_fault shape [] false waiting word (held p rows) ≡ react_fault c false a values (held p rows) → are_plain words ≡ true
        → Walks (state waiting false p rows) (word ∷ words) (from_pending p rows (λ r. option_and_then (reads words Free) (use_once a values r)))
    reacts word words ih waiting p rows a values met fault plain =
        let w : Walk = state waiting false p rows in
        let r : Rows = settled_rows c p rows in
        same_rows w (word ∷ words) _ _ (react_rows (settle_fault c false (held p rows)) (use_fault false a values r) (used a values r) (reads words Free))
        (step_at (passes (react_fault c false a values (held p rows))) w (state idle false None (used a values r)) word words _
        (ap passes (fault_by waiting false p rows word _ _ fault met) ∙ passes_alone (react_fault c false a values (held p rows)))
        (walked_by waiting false p rows word _ met)
        (ih.free idle None (used a values r) refl plain))

    module _ (x : ℕ) (xs : Text) (words : List Text) (ih : Claims words) (waiting : Waiting) (p : Option (Text × List Text)) (rows : Rows) (plain : are_plain words ≡ true) where
      abbrev word : Text
      word = 45 ∷ 45 ∷ x ∷ xs

      abbrev name_of : Text
      name_of = (name_and_value (x ∷ xs)).0

      abbrev w : Walk
      w = state waiting false p rows

      abbrev back : Name → Rows → Option Rows
      back o = reads words (Behind o)

      abbrev front : Rows → Option Rows
      front = reads words Free

      met_at : (a : Option Rule) (v : Option Text) → arg_by_long c name_of ≡ a → (name_and_value (x ∷ xs)).1 ≡ v
          → word_met c [] false waiting 1 word (held p rows) ≡ after_flag c waiting word (long_met c a v (held p rows)).0 (long_met c a v (held p rows)).1
      met_at a v e f =
          long_met_by waiting x xs (held p rows) a e
          ∙ ap (λ (u : Option Text). after_flag c waiting word (long_met c a u (held p rows)).0 (long_met c a u (held p rows)).1) f

      fault_at : (a : Option Rule) (v : Option Text) → arg_by_long c name_of ≡ a → (name_and_value (x ∷ xs)).1 ≡ v
          → word_fault shape [] false waiting word (held p rows) ≡ long_fault c false a v (held p rows)
      fault_at a v e f = long_fault_by waiting x xs (held p rows) a e ∙ ap (λ (u : Option Text). long_fault c false a u (held p rows)) f

      refused_at : (a : Option Rule) (v : Option Text) → arg_by_long c name_of ≡ a → (name_and_value (x ∷ xs)).1 ≡ v → passes (long_fault c false a v (held p rows)) ≡ false
          → (o : Rows → Option Rows) → ((r : Rows) → o r ≡ None) → Walks w (word ∷ words) (from_pending p rows o)
      refused_at a v e f bad o none =
          same_rows w (word ∷ words) None _
          (sym (ap (λ (q : Option Rows). cond (passes (settle_fault c false (held p rows))) q None) (none (settled_rows c p rows)) ∙ cond_none (passes (settle_fault c false (held p rows)))))
          (fails_at w word words
          (ap passes (fault_by waiting false p rows word _ _ (fault_at a v e f) (met_at a v e f)) ∙ first_passes (long_fault c false a v (held p rows)) _ bad))

      at_option : (o : Name) → arg_by_long c name_of ≡ Some (rule_for o) → named options name_of ≡ Some o → (b : Bool) → has_value o ≡ b
          → (v : Option Text) → (name_and_value (x ∷ xs)).1 ≡ v → option_map_or is_dashed v false ≡ false
          → Walks w (word ∷ words) (from_pending p rows (λ r. option_read (Some (o, v)) r back front))
      at_option o found is true valued None f d =
          let takes = takes_for o ∙ valued in
          let h : Held = held p rows in
          let met : word_met c [] false waiting 1 word h ≡ (held (Some (id_of o, [])) (settled_rows c p rows), next (option (id_of o))) =
          met_at (Some (rule_for o)) None found f
          ∙ ap (λ (t : Bool). after_flag c waiting word (cond t (option_met c (rule_for o) None h) (flag_met c (rule_for o) None h)).0
          (cond t (option_met c (rule_for o) None h) (flag_met c (rule_for o) None h)).1) takes in
          let fault : word_fault shape [] false waiting word h ≡ settle_fault c false h =
          fault_at (Some (rule_for o)) None found f
          ∙ ap (λ (t : Bool). cond t (settle_fault c false h) (react_fault c false (rule_for o) [] h)) takes in
          same_rows w (word ∷ words) _ _
          (ap (λ (t : Bool). from_pending p rows (λ r. cond t (back o r) (option_used o [] r front))) (sym valued))
          (step_at (passes (settle_fault c false h)) w (state (option (id_of o)) false (Some (id_of o, [])) (settled_rows c p rows)) word words _
          (ap passes (fault_by waiting false p rows word _ _ fault met) ∙ passes_alone (settle_fault c false h))
          (walked_by waiting false p rows word _ met)
          (ih.behind o (settled_rows c p rows) (record { found = fits.ids name_of o is; valued = valued }) plain))
      at_option o found is false valued None f d =
          let takes = takes_for o ∙ valued in
          let h : Held = held p rows in
          same_rows w (word ∷ words) _ _
          (ap (λ (t : Bool). from_pending p rows (λ r. cond t (back o r)
          (option_and_then front (use_once (rule_for o) (cond t ([] ∷ []) []) r)))) (sym valued))
          (reacts word words ih waiting p rows (rule_for o) []
          (met_at (Some (rule_for o)) None found f
          ∙ ap (λ (t : Bool). after_flag c waiting word (cond t (option_met c (rule_for o) None h) (flag_met c (rule_for o) None h)).0
          (cond t (option_met c (rule_for o) None h) (flag_met c (rule_for o) None h)).1) takes)
          (fault_at (Some (rule_for o)) None found f
          ∙ ap (λ (t : Bool). cond t (settle_fault c false h) (react_fault c false (rule_for o) [] h)) takes)
          plain)
      at_option o found is true valued (Some v) f d =
          let takes = takes_for o ∙ valued in
          let h : Held = held p rows in
          same_rows w (word ∷ words) _ _
          (sym (ap (λ (t : Bool). from_pending p rows (λ r. cond (t && not (is_dashed v)) (option_and_then front (use_once (rule_for o) (cond t (v ∷ []) []) r)) None)) valued
          ∙ ap (λ (t : Bool). from_pending p rows (λ r. cond (not t) (option_and_then front (use_once (rule_for o) (v ∷ []) r)) None)) d))
          (reacts word words ih waiting p rows (rule_for o) (v ∷ [])
          (met_at (Some (rule_for o)) (Some v) found f
          ∙ ap (λ (t : Bool). after_flag c waiting word (cond t (option_met c (rule_for o) (Some v) h) (flag_met c (rule_for o) (Some v) h)).0
          (cond t (option_met c (rule_for o) (Some v) h) (flag_met c (rule_for o) (Some v) h)).1) takes)
          (fault_at (Some (rule_for o)) (Some v) found f
          ∙ ap (λ (t : Bool). cond t (react_fault c false (rule_for o) (v ∷ []) h) (kind.TooManyValues ∷ [])) takes)
          plain)
      at_option o found is false valued (Some v) f d =
          refused_at (Some (rule_for o)) (Some v) found f
          (ap (λ (t : Bool). passes (cond t (react_fault c false (rule_for o) (v ∷ []) (held p rows)) (kind.TooManyValues ∷ []))) (takes_for o ∙ valued))
          (λ r. option_read (Some (o, Some v)) r back front)
          (λ r. ap (λ (t : Bool). cond (t && not (is_dashed v)) (option_used o v r front) None) valued)

      at_name : (o : Option Name) → named options name_of ≡ o → (v : Option Text) → (name_and_value (x ∷ xs)).1 ≡ v → option_map_or is_dashed v false ≡ false
          → Walks w (word ∷ words) (from_pending p rows (λ r. option_read (with_value (name_and_value (x ∷ xs)).1 (named options name_of)) r back front))
      at_name None e v f d =
          refused_at None v (fits.longs name_of ∙ ap (λ (o : Option Name). option_map rule_for o) e) f refl
          (λ r. option_read (with_value (name_and_value (x ∷ xs)).1 (named options name_of)) r back front)
          (λ r. ap (λ (o : Option Name). option_read (with_value (name_and_value (x ∷ xs)).1 o) r back front) e)
      at_name (Some o) e v f d =
          same_rows w (word ∷ words) _ _
          (sym (ap₂ (λ (u : Option Text) (q : Option Name). from_pending p rows (λ r. option_read (with_value u q) r back front)) f e))
          (at_option o (fits.longs name_of ∙ ap (λ (q : Option Name). option_map rule_for q) e) e (has_value o) refl v f d)

      long_next : has_dashed_value (x ∷ xs) ≡ false → Walks w (word ∷ words) (from_pending p rows (reads (word ∷ words) Free))
      long_next undashed =
          same_rows w (word ∷ words) _ _ (ap (λ g. from_pending p rows (λ r. option_read g r back front)) (sym (given_named options (x ∷ xs))))
          (at_name (named options name_of) refl (name_and_value (x ∷ xs)).1 refl undashed)

    -- ---- all words

    falls : {A : Type 0} → true ≡ false → A
    falls e = absurd (true≢false e)

    unplain : (word : Text) (words : List Text) (a b : Bool) → (is word (codes "--") || (is_plain word && are_plain words)) ≡ true → is word (codes "--") ≡ a → is_plain word ≡ b
        → (a || (b && are_plain words)) ≡ true
    unplain _ words a b plain e f = sym (ap₂ (λ (x y : Bool). x || (y && are_plain words)) e f) ∙ plain

    free_next : (word : Text) (words : List Text) → Claims words → (waiting : Waiting) (p : Option (Text × List Text)) (rows : Rows) → is_open waiting ≡ false
        → are_plain (word ∷ words) ≡ true → Walks (state waiting false p rows) (word ∷ words) (from_pending p rows (reads (word ∷ words) Free))
    free_next word words ih waiting p rows closed plain = by_sort (sort_of word)
      where
        by_sort : Sort word → Walks (state waiting false p rows) (word ∷ words) (from_pending p rows (reads (word ∷ words) Free))
        by_sort (dashes e) =
            subst (λ (t : Text). Walks (state waiting false p rows) (t ∷ words) (from_pending p rows (reads (t ∷ words) Free))) (sym e)
            (dashes_next words waiting p rows (from_pending p rows (reads words Bare)) (ih.bare waiting p rows))
        by_sort (long x xs e) =
            let asked : (not (has_dashed_value (x ∷ xs)) && are_plain words) ≡ true = ap (λ (t : Text). are_plain (t ∷ words)) (sym e) ∙ plain in
            let parts = and_parts (not (has_dashed_value (x ∷ xs))) (are_plain words) asked in
            subst (λ (t : Text). Walks (state waiting false p rows) (t ∷ words) (from_pending p rows (reads (t ∷ words) Free))) (sym e)
            (long_next x xs words ih waiting p rows parts.1 (not-true (has_dashed_value (x ∷ xs)) parts.0))
        by_sort (single is) = falls (sym (unplain word words false false plain is.not_dashes is.not_plain))
        by_sort (other is) =
            let asked : (is_plain word && are_plain words) ≡ true = unplain word words false (is_plain word) plain is.no_dashes refl in
            other_next word words ih is waiting p rows closed (and_parts (is_plain word) (are_plain words) asked).1

    behind_next : (word : Text) (words : List Text) → Claims words → (o : Name) (rows : Rows) → IsOpen c o → are_plain (word ∷ words) ≡ true
        → Walks (state (option (id_of o)) false (Some (id_of o, [])) rows) (word ∷ words) (reads (word ∷ words) (Behind o) rows)
    behind_next word words ih o rows known plain = by_sort (sort_of word)
      where
        by_sort : Sort word → Walks (state (option (id_of o)) false (Some (id_of o, [])) rows) (word ∷ words) (reads (word ∷ words) (Behind o) rows)
        by_sort (dashes e) =
            subst (λ (t : Text). Walks (state (option (id_of o)) false (Some (id_of o, [])) rows) (t ∷ words) (reads (t ∷ words) (Behind o) rows)) (sym e)
            (same_rows (state (option (id_of o)) false (Some (id_of o, [])) rows) ((45 ∷ 45 ∷ []) ∷ words) _ None
            (ap (λ (t : Bool). cond t (reads words Bare (settled_rows c (Some (id_of o, [])) rows)) None) (open_fails o rows known))
            (dashes_next words (option (id_of o)) (Some (id_of o, [])) rows _ (ih.bare (option (id_of o)) (Some (id_of o, [])) rows)))
        by_sort (long x xs e) =
            subst (λ (t : Text). Walks (state (option (id_of o)) false (Some (id_of o, [])) rows) (t ∷ words) (reads (t ∷ words) (Behind o) rows)) (sym e)
            (fails_at (state (option (id_of o)) false (Some (id_of o, [])) rows) (45 ∷ 45 ∷ x ∷ xs) words
            (ap passes (fault_by (option (id_of o)) false (Some (id_of o, [])) rows (45 ∷ 45 ∷ x ∷ xs) _ _
            (long_fault_by (option (id_of o)) x xs (held (Some (id_of o, [])) rows) (arg_by_long c (name_and_value (x ∷ xs)).0) refl) refl)
            ∙ first_passes (long_fault c false (arg_by_long c (name_and_value (x ∷ xs)).0) (name_and_value (x ∷ xs)).1 (held (Some (id_of o, [])) rows)) _
            (long_doomed (held (Some (id_of o, [])) rows) (arg_by_long c (name_and_value (x ∷ xs)).0) (name_and_value (x ∷ xs)).1 (open_fails o rows known))))
        by_sort (single is) = falls (sym (unplain word words false false plain is.not_dashes is.not_plain))
        by_sort (other is) =
            let asked : (is_plain word && are_plain words) ≡ true = unplain word words false (is_plain word) plain is.no_dashes refl in
            value_next word words ih is o rows known (and_parts (is_plain word) (are_plain words) asked).1

    claims : (words : List Text) → Claims words
    claims [] = record {
      free = λ waiting p rows closed plain. nil_walks (state waiting false p rows);
      bare = λ waiting p rows. nil_walks (state waiting true p rows);
      behind = λ o rows known plain.
          same_rows (state (option (id_of o)) false (Some (id_of o, [])) rows) [] _ None
          (ap (λ (t : Bool). cond t (Some (settled_rows c (Some (id_of o, [])) rows)) None) (open_fails o rows known))
          (nil_walks (state (option (id_of o)) false (Some (id_of o, [])) rows));
    }
    claims (word ∷ words) =
        let ih = claims words in
        record { free = free_next word words ih; bare = bare_next word words ih; behind = behind_next word words ih }

    -- the words behind the command
    pub walks : (words : List Text) → are_plain words ≡ true → Walks (walk_from nothing_held) words (reads words Free [])
    walks words plain = (claims words).free idle None [] refl plain

    -- ---- what the command makes of them

    all_passes : (a b d e : Kinds) → d ≡ [] → e ≡ [] → passes (or_else a (or_else [] (or_else b (or_else d e)))) ≡ (passes a && passes b)
    all_passes a b d e none nothing = rw (none, nothing) (last a b)
      where
        last : (a b : Kinds) → passes (or_else a (or_else b [])) ≡ (passes a && passes b)
        last [] [] = refl
        last [] (k ∷ ks) = refl
        last (k ∷ ks) b = refl

    pub level_passes_by : (words : List Text) → ((rows : Rows) → defaults_fault rows c ≡ []) → ((rows : Rows) → check_fault shape rows false ≡ [])
        → passes (level_fault shape [] nothing_held words false []) ≡ is_walked (walk_from nothing_held) words
    level_passes_by words defaults checks =
        let end = ends (walk_from nothing_held) words in
        all_passes (walk_fault shape [] (walk_from nothing_held) words) (settle_fault c false end.held) (defaults_fault (settled c end.held).rows c)
        (check_fault shape (finished c end.held) false) (defaults (settled c end.held).rows) (checks (finished c end.held))
