-- What `clap` makes of the words of a command.
use Rattle.std.specs.Prelude.{Bool, true, false, not, ◌&&◌, ◌||◌, List, [], ◌∷◌, codes, Option, Some, None}
use Rattle.std.specs.Option.{option_map_or}
use Rattle.clap.specs.Lexer.{name_and_value}
use Rattle.clap.specs.Walk.{is_empty}
use Rattle.clap.specs.Words.{App, Rule, fault_of, new_app, new_rule, with_rule}
use Rattle.clap.specs.declared.builder.action.ArgAction.TheVariants.{Append, Set, SetTrue}
use Rattle.sm_words.specs.Words.{Text, behind, is, is_dashed}

abbrev pub option_rule : Text → Rule
option_rule id = record (new_rule id) { long = Some id; action = Some Set }

abbrev pub switch_rule : Text → Rule
switch_rule id = record (new_rule id) { long = Some id; action = Some SetTrue }

abbrev pub words_rule : Text → Rule
words_rule id = record (new_rule id) { action = Some Append }

-- a command without help, of which the words behind its name are read
abbrev pub behind_name : App → App
behind_name a = record a { top = record a.top { disable_help_flag = true; no_binary_name = true } }

-- a command that takes words alone
abbrev pub words_app : App
words_app = with_rule (behind_name (new_app (codes "words"))) (words_rule (codes "WORDS"))

-- `serve` with its first options
abbrev pub serve_first_app : App
serve_first_app =
    with_rule
    (with_rule
    (with_rule (behind_name (new_app (codes "serve"))) (option_rule (codes "port")))
    (switch_rule (codes "ladder")))
    (option_rule (codes "turns"))

abbrev pub serve_app : App
serve_app =
    with_rule
    (with_rule
    (with_rule
    (with_rule serve_first_app (option_rule (codes "bind")))
    (option_rule (codes "journal")))
    (option_rule (codes "players")))
    (words_rule (codes "WORDS"))

-- `play` with its first options
abbrev pub play_first_app : App
play_first_app =
    with_rule
    (with_rule
    (with_rule (behind_name (new_app (codes "play"))) (option_rule (codes "from")))
    (option_rule (codes "count")))
    (option_rule (codes "tries"))

abbrev pub play_app : App
play_app = with_rule (with_rule play_first_app (option_rule (codes "refresh"))) (words_rule (codes "WORDS"))

-- `relay` and `standby`, whose words are the same
abbrev pub edge_app : App
edge_app =
    with_rule
    (with_rule
    (with_rule
    (with_rule (behind_name (new_app (codes "edge"))) (option_rule (codes "rounds")))
    (option_rule (codes "tries")))
    (option_rule (codes "journal")))
    (words_rule (codes "WORDS"))

-- ---- what `clap` reads otherwise than it is meant

-- a value that begins with `-` stands behind the first `=`
abbrev pub has_dashed_value : Text → Bool
has_dashed_value option = option_map_or is_dashed (name_and_value option).1 false

abbrev pub plain_by : Option Text → Text → Bool
plain_by None word = not (is_dashed word)
plain_by (Some option) word = not (has_dashed_value option)

-- the word begins with no dash, or with two and has no value that begins with one
abbrev pub is_plain : Text → Bool
is_plain word = plain_by (behind (codes "--") word) word

-- each word before `--` is plain
abbrev pub are_plain : List Text → Bool
are_plain [] = true
are_plain (word ∷ words) = is word (codes "--") || (is_plain word && are_plain words)

-- the words are plain, and the command takes them
abbrev pub is_taken : App → List Text → Bool
is_taken a words = are_plain words && is_empty (fault_of a words)
