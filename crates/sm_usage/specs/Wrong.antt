-- What is wrong in words: the first thing, in this order. The words are read from the left; then each option stands at most once; then the
-- words that are no options are those of the command, each as it has to be; then an option that has to be given is; then the values of
-- options are as they have to be, in the order in which the command names them; then there is a port for threads that answer viewers.
use Rattle.std.specs.Prelude.{ℕ, Bool, true, false, not, ◌&&◌, ◌||◌, nat_le, List, [], ◌∷◌, ◌++◌, length, codes, Option, Some, None, if◌then◌else◌}
use Rattle.std.specs.Option.{option_or}
use Rattle.sm_words.specs.declared.option.Name.{Name}
use Rattle.sm_words.specs.declared.option.Name.TheVariants as options
use Rattle.sm_words.specs.declared.line.Place.{Place}
use Rattle.sm_words.specs.declared.line.Place.TheVariants.{Free, Behind, Bare}
use Rattle.sm_words.specs.declared.topic.Topic.{Topic}
use Rattle.sm_words.specs.declared.topic.Topic.TheVariants as topics
use Rattle.sm_words.specs.Options.{has_value}
use Rattle.sm_words.specs.Helps.{usage_of}
use Rattle.sm_words.specs.Words.{Text, Read, is, first_given, word_at, read, value_of, topic_named, topic_of}
use Rattle.sm_usage.specs.declared.part.Part.{Part}
use Rattle.sm_usage.specs.declared.part.Part.TheVariants as part
use Rattle.sm_usage.specs.Parts.{part_fits, parts_of, is_number, option_fits, options_of}
use Rattle.sm_usage.specs.Faults.{Fault, NoWords, NoCommand, NoOption, NoValue, TakesNone, Twice, Lacks, LacksOption, More, WantsPart, WantsOption, NoNextPort, ManyStreams, line_of}

-- ---- the words, one after another

abbrev pub option_fault : Option (Name × Option Text) → Text → Option Fault
option_fault None word = Some (NoOption word)
option_fault (Some (name, None)) word = None
option_fault (Some (name, Some value)) word = if has_value name then Some (NoValue name) else Some (TakesNone name)

-- why a word may not stand there
abbrev pub word_fault : List Name → Place → Text → Option Fault
word_fault options Bare word = None
word_fault options (Behind name) word = Some (NoValue name)
word_fault options Free word = option_fault (first_given options word) word

abbrev pub end_fault : Place → Option Fault
end_fault Free = None
end_fault (Behind name) = Some (NoValue name)
end_fault Bare = None

-- this fault where the word may not stand there, else that of what follows
abbrev pub after : Option (Place × Read) → Option Fault → (Place → Option Fault) → Option Fault
after None fault rest = fault
after (Some x) fault rest = rest x.0

-- the first word that may not stand where it does
abbrev pub reading_fault : List Name → List Text → Place → Option Fault
reading_fault options [] place = end_fault place
reading_fault options (word ∷ words) place = after (word_at options place word) (word_fault options place word) (λ next. reading_fault options words next)

-- ---- what was read

-- the first of these options that stands twice
abbrev pub twice_at : Option (Option Text) → Name → Option Fault → Option Fault
twice_at None name rest = Some (Twice name)
twice_at (Some value) name rest = rest

abbrev pub twice_fault : List Name → Read → Option Fault
twice_fault [] r = None
twice_fault (name ∷ names) r = twice_at (value_of name r) name (twice_fault names r)

-- the words behind those of the command: none, or more streams
abbrev pub more_fault : Bool → List Text → Option Fault
more_fault many [] = None
more_fault many (word ∷ words) = if many then (if part_fits part.Stream word then more_fault many words else Some (WantsPart part.Stream)) else Some (More word)

abbrev pub words_fault : List Part → Bool → List Text → Option Fault
words_fault [] many words = more_fault many words
words_fault (p ∷ ps) many [] = Some (Lacks p)
words_fault (p ∷ ps) many (word ∷ words) = if part_fits p word then words_fault ps many words else Some (WantsPart p)

-- whether more streams may stand behind the words of the command
abbrev pub is_open : Topic → Bool
is_open topics.All = false
is_open topics.Serve = false
is_open topics.List = false
is_open topics.Push = false
is_open topics.Play = true
is_open topics.Relay = false
is_open topics.Standby = false
is_open topics.Pick = false
is_open topics.Export = false
is_open topics.Rehearse = false

-- a host, a port, a path and 16 streams
abbrev pub many_fault : Bool → List Text → Option Fault
many_fault many words = if many && not (nat_le (length words) 19) then Some ManyStreams else None

-- the port of `serve` has to be given
abbrev pub lacks_at : Option (Option Text) → Option Fault
lacks_at None = None
lacks_at (Some None) = Some (LacksOption options.Port)
lacks_at (Some (Some value)) = None

abbrev pub lacks_fault : Topic → Read → Option Fault
lacks_fault topics.All r = None
lacks_fault topics.Serve r = lacks_at (value_of options.Port r)
lacks_fault topics.List r = None
lacks_fault topics.Push r = None
lacks_fault topics.Play r = None
lacks_fault topics.Relay r = None
lacks_fault topics.Standby r = None
lacks_fault topics.Pick r = None
lacks_fault topics.Export r = None
lacks_fault topics.Rehearse r = None

-- the first of these options whose value isn't what it wants
abbrev pub value_at : Option (Option Text) → Name → Option Fault → Option Fault
value_at None name rest = rest
value_at (Some None) name rest = rest
value_at (Some (Some value)) name rest = if option_fits name value then rest else Some (WantsOption name)

abbrev pub values_fault : List Name → Read → Option Fault
values_fault [] r = None
values_fault (name ∷ names) r = value_at (value_of name r) name (values_fault names r)

-- behind the port of the loop comes that of the threads which answer viewers, if there are some
abbrev pub port_at : Option (Option Text) → Option Fault
port_at None = None
port_at (Some None) = None
port_at (Some (Some port)) = if is_number 1 65534 port then None else Some NoNextPort

abbrev pub players_at : Option (Option Text) → Option Fault → Option Fault
players_at None fault = None
players_at (Some None) fault = None
players_at (Some (Some players)) fault = fault

abbrev pub next_fault : Topic → Read → Option Fault
next_fault topics.All r = None
next_fault topics.Serve r = players_at (value_of options.Players r) (port_at (value_of options.Port r))
next_fault topics.List r = None
next_fault topics.Push r = None
next_fault topics.Play r = None
next_fault topics.Relay r = None
next_fault topics.Standby r = None
next_fault topics.Pick r = None
next_fault topics.Export r = None
next_fault topics.Rehearse r = None

abbrev pub read_fault : Topic → Read → Option Fault
read_fault topic r =
    option_or (twice_fault (options_of topic) r)
    (option_or (words_fault (parts_of topic) (is_open topic) r.words)
    (option_or (many_fault (is_open topic) r.words)
    (option_or (lacks_fault topic r)
    (option_or (values_fault (options_of topic) r) (next_fault topic r)))))

abbrev pub found_fault : Topic → Option Read → Option Fault
found_fault topic None = None
found_fault topic (Some r) = read_fault topic r

-- ---- a command

abbrev pub command_fault : Topic → List Text → Option Fault
command_fault topic words = option_or (reading_fault (options_of topic) words Free) (found_fault topic (read (options_of topic) words))

-- words where there is to be none
abbrev pub alone_fault : List Text → Option Fault
alone_fault [] = None
alone_fault (word ∷ words) = Some (More word)

abbrev pub named_fault : Option Topic → Text → Option Fault
named_fault None name = Some (NoCommand name)
named_fault (Some topic) name = None

-- behind `help` stands nothing, or the name of a command
abbrev pub help_fault : List Text → Option Fault
help_fault [] = None
help_fault (name ∷ []) = named_fault (topic_named name) name
help_fault (name ∷ more ∷ words) = Some (More more)

-- the word is `--help`, `version` or `--version`
abbrev pub is_alone : Text → Bool
is_alone command = is command (codes "--help") || (is command (codes "version") || is command (codes "--version"))

abbrev pub fault_by : Option Topic → Text → List Text → Option Fault
fault_by (Some topic) command words = command_fault topic words
fault_by None command words =
    if is command (codes "help") then help_fault words
    else if is_alone command then alone_fault words
    else Some (NoCommand command)

abbrev pub wrong_in : List Text → Option Fault
wrong_in [] = Some NoWords
wrong_in (command ∷ words) = fault_by (topic_named command) command words

-- ---- how it is told

abbrev pub told : Option Fault → List ℕ
told None = []
told (Some fault) = line_of fault

-- the line of words that name no command, what is wrong in them, and the use of the command that they begin with
abbrev pub wrong_words : List Text → List ℕ
wrong_words words = codes "error: words\n" ++ (told (wrong_in words) ++ usage_of (topic_of words))
