-- The rows of `clap` that are read of words behind a command.
use Rattle.std.proofs.Common.{◌≡◌, codes, ◌&&◌, Bool, true, false, cond, not, List, [], ◌∷◌, Option, Some, None, refl}
use Rattle.std.specs.Option.{option_and_then}
use Rattle.std.specs.Str.{bytes_eq}
use Rattle.clap.specs.Kinds.{Kinds, or_else}
use Rattle.clap.specs.Faults.{use_fault}
use Rattle.clap.specs.Simple.{filled, new_rule, with_index}
use Rattle.clap.specs.Walk.{Row, Rule, used}
use Rattle.clap.specs.declared.builder.action.ArgAction.TheVariants.{Set, SetTrue}
use Rattle.sm_words.specs.declared.option.Name.{Name}
use Rattle.sm_words.specs.declared.line.Place.{Place}
use Rattle.sm_words.specs.declared.line.Place.TheVariants.{Free, Behind, Bare}
use Rattle.sm_words.specs.Options.{has_value}
use Rattle.sm_words.specs.Words.{Text, first_given, is_dashed}
use Rattle.sm_words.specs.Clapped.{words_rule}
use Rattle.sm_words.proofs.Lexing.{id_of, long}

-- ---- kinds of errors

abbrev pub passes : Kinds → Bool
passes [] = true
passes (k ∷ kinds) = false

pub passes_both : (a b : Kinds) → passes (or_else a b) ≡ (passes a && passes b)
passes_both [] b = refl
passes_both (k ∷ ks) b = refl

-- ---- the rows that are read of the words

-- an option, as it is built
abbrev pub rule_for : Name → Rule
rule_for o = filled (record (new_rule (id_of o)) { long = Some (id_of o); action = Some (cond (has_value o) Set SetTrue) })

abbrev pub values_for : Name → Text → List Text
values_for o text = cond (has_value o) (text ∷ []) []

-- one use of an argument, if it may be used so
abbrev pub use_once : Rule → List Text → List Row → Option (List Row)
use_once a values rows = cond (passes (use_fault false a values rows)) (Some (used a values rows)) None

abbrev pub Rows : Type 0
Rows = List Row

-- the argument for the words that are no options, as it is built
abbrev pub words_part : Rule
words_part = with_index 1 (filled (words_rule (codes "WORDS")))

-- the word goes to that argument, and then the others are read
abbrev pub word_used : Text → Rows → (Rows → Option Rows) → Option Rows
word_used word rows more = option_and_then more (use_once words_part (word ∷ []) rows)

abbrev pub option_used : Name → Text → Rows → (Rows → Option Rows) → Option Rows
option_used o text rows more = option_and_then more (use_once (rule_for o) (values_for o text) rows)

abbrev pub option_read : Option (Name × Option Text) → Rows → (Name → Rows → Option Rows) → (Rows → Option Rows) → Option Rows
option_read None rows behind free = None
option_read (Some (o, None)) rows behind free = cond (has_value o) (behind o rows) (option_used o [] rows free)
option_read (Some (o, Some text)) rows behind free = cond (has_value o && not (is_dashed text)) (option_used o text rows free) None

-- the rows after the words from a place on
abbrev pub rows_from : List Name → List Text → Place → Rows → Option Rows
rows_from options [] (Behind o) rows = None
rows_from options [] Free rows = Some rows
rows_from options [] Bare rows = Some rows
rows_from options (word ∷ words) Bare rows = word_used word rows (rows_from options words Bare)
rows_from options (word ∷ words) (Behind o) rows = cond (is_dashed word) None (option_used o word rows (rows_from options words Free))
rows_from options (word ∷ words) Free rows =
    cond (bytes_eq word (45 ∷ 45 ∷ [])) (rows_from options words Bare rows)
    (cond (is_dashed word)
    (option_read (first_given options word) rows (λ o. rows_from options words (Behind o)) (rows_from options words Free))
    (word_used word rows (rows_from options words Free)))
