-- What the code holds of a line.
use Rattle.std.specs.Prelude.{map, Option, Some, None, Result, Ok, Err, string_bytes}
use Rattle.std.specs.Option.{option_map}
use Rattle.std.specs.Borrow.{Bor}
use Rattle.sm_words.specs.declared.line.Twice.{Twice}
use Rattle.sm_words.specs.declared.option.Name.{Name}
use Rattle.sm_words.specs.declared.line.Place.{Place}
use Rattle.sm_words.specs.declared.line.Given.{Given}
use Rattle.sm_words.specs.declared.line.Line.{Line}
use Rattle.sm_words.specs.declared.line.How.{How}
use Rattle.sm_words.specs.declared.line.How.TheVariants as how
use Rattle.sm_words.specs.declared.line.Adds.{Adds}
use Rattle.sm_words.specs.declared.line.Adds.TheVariants as adds
use Rattle.sm_words.specs.declared.line.Step.{Step}
use Rattle.sm_words.specs.Words.{Text, Read, nothing, one_word, one_option}

abbrev pub how_of : How → Option Text
how_of how.Alone = None
how_of (how.With value) = Some value.now

abbrev pub adds_of : Adds → Read
adds_of adds.Nothing = nothing
adds_of (adds.Word word) = one_word word.now
adds_of (adds.Given name value) = one_option name value.now

abbrev pub step_of : Step → Place × Read
step_of s = (s.next, adds_of s.adds)

abbrev pub given_of : Given → Name × Text
given_of g = (g.name, string_bytes g.value)

abbrev pub read_of : Line → Read
read_of l = record { given = map given_of l.given.items; words = map string_bytes l.words.items }

-- what stands of an option: nothing, or its value; none where it stands twice
abbrev pub use_of : Result (Option (Bor Text)) Twice → Option (Option Text)
use_of (Ok value) = Some (option_map (λ text. text.now) value)
use_of (Err twice) = None
