-- What may be wrong in words, and how it is told.
use Rattle.std.specs.Prelude.{ℕ, List, ◌++◌, codes}
use Rattle.sm_words.specs.declared.option.Name.{Name}
use Rattle.sm_words.specs.Options.{text_of}
use Rattle.sm_words.specs.Words.{Text}
use Rattle.sm_usage.specs.declared.part.Part.{Part}
use Rattle.sm_usage.specs.declared.wrong.Wrong.{Wrong}
use Rattle.sm_usage.specs.declared.wrong.Wrong.TheVariants as wrong
use Rattle.sm_usage.specs.Parts.{part_text, part_wants, option_wants}

pub data Fault : Type 0 where
  -- no word at all
  NoWords : Fault
  -- the word names no command
  NoCommand : Text → Fault
  -- the word begins with `-` and is no option of the command
  NoOption : Text → Fault
  -- the option has no value, or one that begins with `-`
  NoValue : Name → Fault
  -- the option takes no value, and has one
  TakesNone : Name → Fault
  -- the option stands twice
  Twice : Name → Fault
  -- the part isn't there
  Lacks : Part → Fault
  -- the option isn't there
  LacksOption : Name → Fault
  -- there is no place for the word
  More : Text → Fault
  -- a word is not what its part wants
  WantsPart : Part → Fault
  -- a value is not what its option wants
  WantsOption : Name → Fault
  -- with threads the next port is theirs, and there is none
  NoNextPort : Fault
  -- more than 16 streams
  ManyStreams : Fault

abbrev pub line_of : Fault → List ℕ
line_of NoWords = codes "COMMAND is missing\n"
line_of (NoCommand word) = word ++ codes " is no command\n"
line_of (NoOption word) = word ++ codes " is no option of this command\n"
line_of (NoValue name) = text_of name ++ (codes " wants " ++ (option_wants name ++ codes " behind it\n"))
line_of (TakesNone name) = text_of name ++ codes " takes no value\n"
line_of (Twice name) = text_of name ++ codes " stands twice\n"
line_of (Lacks part) = part_text part ++ codes " is missing\n"
line_of (LacksOption name) = text_of name ++ codes " is missing\n"
line_of (More word) = word ++ codes " is one word too many\n"
line_of (WantsPart part) = part_text part ++ (codes " wants " ++ (part_wants part ++ codes "\n"))
line_of (WantsOption name) = text_of name ++ (codes " wants " ++ (option_wants name ++ codes "\n"))
line_of NoNextPort = codes "--port wants a number from 1 to 65534 with --players\n"
line_of ManyStreams = codes "STREAM stands more than 16 times\n"

-- as the code holds it
abbrev pub fault_of : Wrong → Fault
fault_of wrong.NoWords = NoWords
fault_of (wrong.NoCommand word) = NoCommand word.now
fault_of (wrong.NoOption word) = NoOption word.now
fault_of (wrong.NoValue name) = NoValue name
fault_of (wrong.TakesNone name) = TakesNone name
fault_of (wrong.Twice name) = Twice name
fault_of (wrong.Lacks part) = Lacks part
fault_of (wrong.LacksOption name) = LacksOption name
fault_of (wrong.More word) = More word.now
fault_of (wrong.WantsPart part) = WantsPart part
fault_of (wrong.WantsOption name) = WantsOption name
fault_of wrong.NoNextPort = NoNextPort
fault_of wrong.ManyStreams = ManyStreams
