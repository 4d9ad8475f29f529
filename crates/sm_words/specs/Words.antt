-- The words of a command.
use Rattle.std.specs.Prelude.{◌-◌, ◌^◌, ℕ, Bool, false, not, ◌&&◌, ◌==◌, nat_le, nat_eq, List, [], ◌∷◌, ◌++◌, length, codes}
use Rattle.std.specs.Prelude.{Option, Some, None, is_some, unwrap_or, if◌then◌else◌}
use Rattle.std.specs.List.{list_all}
use Rattle.std.specs.Cmp.Lexicographic.{pointwise}
use Rattle.std.specs.Option.{option_and_then, option_map, option_or}
use Rattle.sm_model.specs.Digits.{is_digit, decimal_from}
use Rattle.sm_model.specs.Names.{is_name}
use Rattle.sm_client.specs.declared.plan.Plan.{Plan}
use Rattle.sm_fetch.specs.declared.place.Place.{Place as Origin}
use Rattle.sm_words.specs.declared.option.Name.{Name}
use Rattle.sm_words.specs.declared.option.Name.TheVariants.{Port, Ladder, Turns, Bind, Journal, Players, From, Count, Tries, Refresh, Rounds}
use Rattle.sm_words.specs.declared.line.Place.{Place}
use Rattle.sm_words.specs.declared.line.Place.TheVariants.{Free, Behind, Bare}
use Rattle.sm_words.specs.declared.topic.Topic.{Topic}
use Rattle.sm_words.specs.declared.topic.Topic.TheVariants as topics
use Rattle.sm_words.specs.Options.{text_of, has_value, is_same, edge_options, play_options, serve_options}
use Rattle.sm_words.specs.Places.{is_host, is_path}

abbrev pub Text : Type 0
Text = List ℕ

abbrev pub is : Text → Text → Bool
is word text = pointwise nat_eq word text

-- ---- numbers

-- 1 to 19 decimal digits without a sign that write a number in these bounds; leading zeros are allowed
abbrev pub is_numeral : ℕ → ℕ → Text → Bool
is_numeral low high word =
    nat_le 1 (length word)
    && (nat_le (length word) 19
    && (list_all is_digit word && (nat_le low (decimal_from 0 word) && nat_le (decimal_from 0 word) high)))

unfoldable pub numeral : ℕ → ℕ → Text → Option ℕ
numeral low high word = if is_numeral low high word then Some (decimal_from 0 word) else None

-- ---- options

abbrev pub is_dashed : Text → Bool
is_dashed [] = false
is_dashed (c ∷ cs) = c == 45

-- what stands behind that beginning, where the text has it
abbrev pub behind : Text → Text → Option Text
behind [] text = Some text
behind (b ∷ bs) [] = None
behind (b ∷ bs) (c ∷ cs) = if b == c then behind bs cs else None

-- an option stands alone, or has its value behind `=`
abbrev pub value_in : Option Text → Option (Option Text)
value_in None = None
value_in (Some []) = Some None
value_in (Some (c ∷ cs)) = option_map (λ value. Some value) (behind (codes "=") (c ∷ cs))

-- how the word gives this option, if it does
unfoldable pub given_by : Name → Text → Option (Option Text)
given_by name word = value_in (behind (text_of name) word)

-- the first of these options that the word gives
abbrev pub first_given : List Name → Text → Option (Name × Option Text)
first_given [] word = None
first_given (name ∷ names) word = option_or (option_map (λ how. (name, how)) (given_by name word)) (first_given names word)

-- ---- a line

-- the options that are given, in their order and with their values, and the other words in theirs; an option that takes no value has
-- the empty one
pub record Read : Type 0 where
  pub given : List (Name × Text)
  pub words : List Text

abbrev pub nothing : Read
nothing = record { given = []; words = [] }

abbrev pub one_word : Text → Read
one_word word = record { given = []; words = word ∷ [] }

abbrev pub one_option : Name → Text → Read
one_option name value = record { given = (name, value) ∷ []; words = [] }

abbrev pub joined : Read → Read → Read
joined a b = record { given = a.given ++ b.given; words = a.words ++ b.words }

-- an option alone awaits its value, if it takes one; with a value it must take one, which doesn't begin with `-`
abbrev pub option_word : Option (Name × Option Text) → Option (Place × Read)
option_word None = None
option_word (Some (name, None)) = Some (if has_value name then (Behind name, nothing) else (Free, one_option name []))
option_word (Some (name, Some value)) = if has_value name && not (is_dashed value) then Some (Free, one_option name value) else None

-- what a word is where it stands, and where the next one stands
unfoldable pub word_at : List Name → Place → Text → Option (Place × Read)
word_at options Bare word = Some (Bare, one_word word)
word_at options (Behind name) word = if is_dashed word then None else Some (Free, one_option name word)
word_at options Free word =
    if is word (codes "--") then Some (Bare, nothing)
    else if is_dashed word then option_word (first_given options word)
    else Some (Free, one_word word)

abbrev pub end_at : Place → Option Read
end_at (Behind name) = None
end_at Free = Some nothing
end_at Bare = Some nothing

abbrev pub goes_on : Option (Place × Read) → (Place → Option Read) → Option Read
goes_on None rest = None
goes_on (Some x) rest = option_map (λ r. joined x.1 r) (rest x.0)

-- the words from a place on
abbrev pub read_from : List Name → List Text → Place → Option Read
read_from options [] place = end_at place
read_from options (word ∷ words) place = goes_on (word_at options place word) (λ next. read_from options words next)

-- The words behind a command with these options. An option stands before, between or behind the other words, as `--name value` or
-- `--name=value`; behind `--` no word is one; before it a word that begins with `-` is one of these or nothing.
abbrev pub read : List Name → List Text → Option Read
read options words = read_from options words Free

-- ---- what is asked

abbrev pub values_of : Name → List (Name × Text) → List Text
values_of name [] = []
values_of name (g ∷ given) = if is_same g.0 name then g.1 ∷ values_of name given else values_of name given

-- none, or the one; an option stands at most once
abbrev pub at_most_one : List Text → Option (Option Text)
at_most_one [] = Some None
at_most_one (v ∷ []) = Some (Some v)
at_most_one (v ∷ w ∷ values) = None

abbrev pub value_of : Name → Read → Option (Option Text)
value_of name r = at_most_one (values_of name r.given)

abbrev pub only_word : List Text → Option Text
only_word [] = None
only_word (word ∷ []) = Some word
only_word (word ∷ more ∷ words) = None

abbrev pub two_words : List Text → Option (Text × Text)
two_words [] = None
two_words (first ∷ []) = None
two_words (first ∷ second ∷ []) = Some (first, second)
two_words (first ∷ second ∷ more ∷ words) = None

-- the texts that `push` is given
pub record PushTexts : Type 0 where
  pub host : Text
  pub port : Text
  pub path : Text
  pub id : Text

abbrev pub push_texts : List Text → Option PushTexts
push_texts [] = None
push_texts (host ∷ []) = None
push_texts (host ∷ port ∷ []) = None
push_texts (host ∷ port ∷ path ∷ []) = None
push_texts (host ∷ port ∷ path ∷ id ∷ []) = Some (record { host = host; port = port; path = path; id = id })
push_texts (host ∷ port ∷ path ∷ id ∷ more ∷ words) = None

-- a folder, a port, whether a ladder is read, the most events, the one address that is listened at, and the file of the journal
pub record Serving : Type 0 where
  pub store : Text
  pub port : ℕ
  pub ladder : Bool
  pub turns : ℕ
  pub bind : Option Text
  pub journal : Option Text

-- where an origin's channel is, the folder of the store that it is pulled into, how often its manifest is read, how often each thing is
-- asked for, and the file of the journal
pub record Pulling : Type 0 where
  pub place : Origin
  pub store : Text
  pub rounds : ℕ
  pub tries : ℕ
  pub journal : Option Text

pub data Wanted : Type 0 where
  -- a track_ID and a time
  Pick : ℕ → ℕ → Wanted
  -- what is served, and how
  Serve : Serving → Wanted
  -- the same, and how many threads answer viewers beside the loop
  ServeShown : Serving → ℕ → Wanted
  -- a host, a port, the path of a channel, and the name of a stream
  Push : Text → ℕ → Text → Text → Wanted
  -- what is to be played
  Play : Plan → Wanted
  -- what is pulled, and into which store
  Relay : Pulling → Wanted
  -- what is followed, and in which store
  Standby : Pulling → Wanted
  -- a folder
  Listing : Text → Wanted
  -- the number of a world and its size
  Rehearse : ℕ → ℕ → Wanted
  -- a folder, the name of a stream, and a bitrate
  Export : Text → Text → ℕ → Wanted
  -- what is said of a command, or of all
  Help : Topic → Wanted
  -- which version this is
  Version : Wanted

-- a text that isn't empty
abbrev pub filled : Text → Option Text
filled [] = None
filled (c ∷ cs) = Some (c ∷ cs)

-- the value of an option, which isn't empty; where it isn't given the empty text stands for it
abbrev pub value_or_empty : Option Text → Option Text
value_or_empty None = Some []
value_or_empty (Some text) = filled text

-- the number that a text writes, or another where there is no text
abbrev pub number_or : ℕ → ℕ → Option ℕ → Option Text → Option ℕ
number_or low high other None = other
number_or low high other (Some text) = numeral low high text

abbrev pub pick_by : Text → Text → Option Wanted
pick_by track time = option_and_then (λ t. option_map (λ at. Pick t at) (numeral 0 (2 ^ 63 - 1) time)) (numeral 1 (2 ^ 32 - 1) track)

abbrev pub pick_of : Read → Option Wanted
pick_of r = option_and_then (λ texts. pick_by texts.0 texts.1) (two_words r.words)

abbrev pub rehearse_by : Text → Text → Option Wanted
rehearse_by number size = option_and_then (λ n. option_map (λ s. Rehearse n s) (numeral 0 2000 size)) (numeral 0 (2 ^ 31 - 1) number)

abbrev pub rehearse_of : Read → Option Wanted
rehearse_of r = option_and_then (λ texts. rehearse_by texts.0 texts.1) (two_words r.words)

-- the texts that `serve` is given
pub record ServeTexts : Type 0 where
  pub port : Text
  pub ladder : Bool
  pub turns : Option Text
  pub bind : Text
  pub journal : Text
  pub players : Text
  pub store : Text

-- how many threads answer viewers, if any do
abbrev pub players_by : Option Text → Option (Option ℕ)
players_by None = Some None
players_by (Some text) = option_map (λ n. Some n) (numeral 1 16 text)

-- the last port that the loop may have; where threads answer viewers the next one is theirs
abbrev pub last_port : Option ℕ → ℕ
last_port None = 65535
last_port (Some players) = 65534

abbrev pub served_by : Serving → Option ℕ → Wanted
served_by s None = Serve s
served_by s (Some players) = ServeShown s players

abbrev pub serve_by : ServeTexts → Option Wanted
serve_by x =
    option_and_then (λ players.
    option_and_then (λ port.
    option_and_then (λ turns.
    option_map (λ store. served_by (record { store = store; port = port; ladder = x.ladder; turns = turns; bind = filled x.bind; journal = filled x.journal }) players)
    (filled x.store))
    (number_or 1 (2 ^ 63 - 1) (Some (2 ^ 63 - 1)) x.turns))
    (numeral 1 (last_port players) x.port))
    (players_by (filled x.players))

-- the port must be given
abbrev pub serve_texts : Read → Option ServeTexts
serve_texts r =
    option_and_then (λ port.
    option_and_then (λ ladder.
    option_and_then (λ turns.
    option_and_then (λ bind.
    option_and_then (λ journal.
    option_and_then (λ players.
    option_map (λ store. record { port = port; ladder = is_some ladder; turns = turns; bind = bind; journal = journal; players = players; store = store })
    (only_word r.words))
    (option_and_then value_or_empty (value_of Players r)))
    (option_and_then value_or_empty (value_of Journal r)))
    (option_and_then value_or_empty (value_of Bind r)))
    (value_of Turns r))
    (value_of Ladder r))
    (option_and_then (λ port. port) (value_of Port r))

abbrev pub serve_of : Read → Option Wanted
serve_of r = option_and_then serve_by (serve_texts r)

abbrev pub list_of : Read → Option Wanted
list_of r = option_and_then (λ store. option_map Listing (filled store)) (only_word r.words)

abbrev pub push_by : PushTexts → Option Wanted
push_by x =
    option_and_then (λ port. if is_host x.host && (is_path x.path && is_name x.id) then Some (Push x.host port x.path x.id) else None)
    (numeral 1 65535 x.port)

abbrev pub push_of : Read → Option Wanted
push_of r = option_and_then push_by (push_texts r.words)

-- ---- play

-- the texts that `play` is given, or those that stand for them; one stream at least
pub record PlayTexts : Type 0 where
  pub host : Text
  pub port : Text
  pub path : Text
  pub stream : Text
  pub more : List Text
  pub from : Option Text
  pub count : Text
  pub tries : Text
  pub refresh : Text

-- where an option isn't given, 1,000,000 fragments of each stream are played, from the first one that is listed, and each is asked for three
-- times at most, as is each manifest, of which three are read for one start at most
abbrev pub texts_by : Text → Text → Text → Text → List Text → Option Text → Option Text → Option Text → Option Text → PlayTexts
texts_by host port path stream more from count tries refresh = record {
  host = host;
  port = port;
  path = path;
  stream = stream;
  more = more;
  from = from;
  count = unwrap_or count (codes "1000000");
  tries = unwrap_or tries (codes "3");
  refresh = unwrap_or refresh (codes "3");
}

abbrev pub play_words_by : List Text → Option Text → Option Text → Option Text → Option Text → Option PlayTexts
play_words_by [] from count tries refresh = None
play_words_by (host ∷ []) from count tries refresh = None
play_words_by (host ∷ port ∷ []) from count tries refresh = None
play_words_by (host ∷ port ∷ path ∷ []) from count tries refresh = None
play_words_by (host ∷ port ∷ path ∷ stream ∷ more) from count tries refresh = Some (texts_by host port path stream more from count tries refresh)

abbrev pub play_texts : Read → Option PlayTexts
play_texts r =
    option_and_then (λ from.
    option_and_then (λ count.
    option_and_then (λ tries.
    option_and_then (λ refresh. play_words_by r.words from count tries refresh)
    (value_of Refresh r))
    (value_of Tries r))
    (value_of Count r))
    (value_of From r)

-- the numbers of `play`
pub record PlayNumbers : Type 0 where
  pub port : ℕ
  pub from : Option ℕ
  pub count : ℕ
  pub tries : ℕ
  pub refresh : ℕ

-- a start, if one is given
abbrev pub start_by : Option Text → Option (Option ℕ)
start_by None = Some None
start_by (Some text) = option_map (λ n. Some n) (numeral 0 (2 ^ 63 - 1) text)

abbrev pub numbers_by : PlayTexts → Option PlayNumbers
numbers_by x =
    option_and_then (λ port.
    option_and_then (λ from.
    option_and_then (λ count.
    option_and_then (λ tries.
    option_map (λ refresh. record { port = port; from = from; count = count; tries = tries; refresh = refresh })
    (numeral 1 10000 x.refresh))
    (numeral 1 16 x.tries))
    (numeral 1 1000000 x.count))
    (start_by x.from))
    (numeral 1 65535 x.port)

abbrev pub name_by : Text → Option Text
name_by text = if is_name text then Some text else None

-- at most 16 names
abbrev pub streams_by : List Text → Option (List Text)
streams_by names = if nat_le (length names) 16 && list_all is_name names then Some names else None

abbrev pub plan_by : PlayTexts → PlayNumbers → List Text → Plan
plan_by x n streams = record {
  place = record { host = x.host; port = n.port; path = x.path };
  streams = streams;
  from = n.from;
  count = n.count;
  tries = n.tries;
  refresh = n.refresh;
}

abbrev pub play_by : PlayTexts → Option Wanted
play_by x =
    option_and_then (λ n.
    if is_host x.host && is_path x.path then option_map (λ streams. Play (plan_by x n streams)) (streams_by (x.stream ∷ x.more)) else None)
    (numbers_by x)

abbrev pub play_of : Read → Option Wanted
play_of r = option_and_then play_by (play_texts r)

-- ---- relay and standby

-- the texts that they are given, or those that stand for them
pub record EdgeTexts : Type 0 where
  pub host : Text
  pub port : Text
  pub path : Text
  pub store : Text
  pub rounds : Text
  pub tries : Text
  pub journal : Text

-- where an option isn't given, the manifest is read 1,000,000 times, and each thing is asked for three times at most
abbrev pub edge_words_by : List Text → Option Text → Option Text → Text → Option EdgeTexts
edge_words_by [] rounds tries journal = None
edge_words_by (host ∷ []) rounds tries journal = None
edge_words_by (host ∷ port ∷ []) rounds tries journal = None
edge_words_by (host ∷ port ∷ path ∷ []) rounds tries journal = None
edge_words_by (host ∷ port ∷ path ∷ store ∷ []) rounds tries journal = Some (record {
  host = host;
  port = port;
  path = path;
  store = store;
  rounds = unwrap_or rounds (codes "1000000");
  tries = unwrap_or tries (codes "3");
  journal = journal;
})
edge_words_by (host ∷ port ∷ path ∷ store ∷ more ∷ words) rounds tries journal = None

abbrev pub edge_texts : Read → Option EdgeTexts
edge_texts r =
    option_and_then (λ rounds.
    option_and_then (λ tries.
    option_and_then (λ journal. edge_words_by r.words rounds tries journal)
    (option_and_then value_or_empty (value_of Journal r)))
    (value_of Tries r))
    (value_of Rounds r)

abbrev pub pulling_by : EdgeTexts → ℕ → ℕ → ℕ → Text → Pulling
pulling_by x port rounds tries store = record {
  place = record { host = x.host; port = port; path = x.path };
  store = store;
  rounds = rounds;
  tries = tries;
  journal = filled x.journal;
}

abbrev pub edge_by : EdgeTexts → Option Pulling
edge_by x =
    option_and_then (λ port.
    option_and_then (λ rounds.
    option_and_then (λ tries.
    option_and_then (λ store. if is_host x.host && is_path x.path then Some (pulling_by x port rounds tries store) else None)
    (filled x.store))
    (numeral 1 16 x.tries))
    (numeral 1 1000000 x.rounds))
    (numeral 1 65535 x.port)

abbrev pub edge_of : Read → Option Pulling
edge_of r = option_and_then edge_by (edge_texts r)

-- ---- export

-- the texts that `export` is given
pub record ExportTexts : Type 0 where
  pub store : Text
  pub name : Text
  pub bitrate : Text

abbrev pub export_texts : List Text → Option ExportTexts
export_texts [] = None
export_texts (store ∷ []) = None
export_texts (store ∷ name ∷ []) = None
export_texts (store ∷ name ∷ bitrate ∷ []) = Some (record { store = store; name = name; bitrate = bitrate })
export_texts (store ∷ name ∷ bitrate ∷ more ∷ words) = None

abbrev pub export_by : ExportTexts → Option Wanted
export_by x =
    option_and_then (λ bitrate.
    option_and_then (λ store.
    option_map (λ name. Export store name bitrate)
    (name_by x.name))
    (filled x.store))
    (numeral 0 (2 ^ 32 - 1) x.bitrate)

abbrev pub export_of : Read → Option Wanted
export_of r = option_and_then export_by (export_texts r.words)

-- ---- help

-- the command of that name
abbrev pub topic_named : Text → Option Topic
topic_named name =
    if is name (codes "serve") then Some topics.Serve
    else if is name (codes "list") then Some topics.List
    else if is name (codes "push") then Some topics.Push
    else if is name (codes "play") then Some topics.Play
    else if is name (codes "relay") then Some topics.Relay
    else if is name (codes "standby") then Some topics.Standby
    else if is name (codes "pick") then Some topics.Pick
    else if is name (codes "export") then Some topics.Export
    else if is name (codes "rehearse") then Some topics.Rehearse
    else None

-- the command that words begin with; where they begin with none, all of them
abbrev pub topic_of : List Text → Topic
topic_of [] = topics.All
topic_of (command ∷ words) = unwrap_or (topic_named command) topics.All

abbrev pub help_by : List Text → Option Wanted
help_by [] = Some (Help topics.All)
help_by (name ∷ []) = option_map (λ topic. Help topic) (topic_named name)
help_by (name ∷ more ∷ words) = None

-- without any word
abbrev pub alone : List Text → Wanted → Option Wanted
alone [] wanted = Some wanted
alone (word ∷ words) wanted = None

-- what the words ask for: `pick TRACK TIME`, `serve STORE --port N [--ladder] [--turns N] [--bind ADDRESS] [--journal FILE] [--players N]`,
-- `push HOST PORT PATH ID`, `list STORE`,
-- `play HOST PORT PATH STREAM... [--from N] [--count N] [--tries N] [--refresh N]`, `rehearse NUMBER SIZE`, `export STORE NAME BITRATE`,
-- `relay HOST PORT PATH STORE [--rounds N] [--tries N] [--journal FILE]`,
-- `standby HOST PORT PATH STORE [--rounds N] [--tries N] [--journal FILE]`,
-- `help`, `help COMMAND`, `--help`, `version` or `--version`
unfoldable pub asked : List Text → Option Wanted
asked [] = None
asked (command ∷ words) =
    if is command (codes "pick") then option_and_then pick_of (read [] words)
    else if is command (codes "serve") then option_and_then serve_of (read serve_options words)
    else if is command (codes "push") then option_and_then push_of (read [] words)
    else if is command (codes "list") then option_and_then list_of (read [] words)
    else if is command (codes "play") then option_and_then play_of (read play_options words)
    else if is command (codes "rehearse") then option_and_then rehearse_of (read [] words)
    else if is command (codes "export") then option_and_then export_of (read [] words)
    else if is command (codes "relay") then option_map (λ e. Relay e) (option_and_then edge_of (read edge_options words))
    else if is command (codes "standby") then option_map (λ e. Standby e) (option_and_then edge_of (read edge_options words))
    else if is command (codes "help") then help_by words
    else if is command (codes "--help") then alone words (Help topics.All)
    else if is command (codes "version") then alone words Version
    else if is command (codes "--version") then alone words Version
    else None
