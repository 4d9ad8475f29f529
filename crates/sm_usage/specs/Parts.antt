-- The parts of a command's words, and what each of them may be.
use Rattle.std.specs.Prelude.{◌-◌, ◌^◌, ℕ, Bool, true, List, [], ◌∷◌, codes, is_some}
use Rattle.sm_model.specs.Names.{is_name}
use Rattle.sm_words.specs.declared.option.Name.{Name}
use Rattle.sm_words.specs.declared.option.Name.TheVariants as options
use Rattle.sm_words.specs.declared.topic.Topic.{Topic}
use Rattle.sm_words.specs.declared.topic.Topic.TheVariants as topics
use Rattle.sm_words.specs.Options.{edge_options, play_options, serve_options}
use Rattle.sm_words.specs.Places.{is_host, is_path}
use Rattle.sm_words.specs.Words.{Text, filled, numeral}
use Rattle.sm_usage.specs.declared.part.Part.{Part}
use Rattle.sm_usage.specs.declared.part.Part.TheVariants as part

-- ---- words

-- as the use of a command names it
abbrev pub part_text : Part → Text
part_text part.Store = codes "STORE"
part_text part.Host = codes "HOST"
part_text part.Port = codes "PORT"
part_text part.Path = codes "PATH"
part_text part.Id = codes "ID"
part_text part.Stream = codes "STREAM"
part_text part.Track = codes "TRACK"
part_text part.Time = codes "TIME"
part_text part.Name = codes "NAME"
part_text part.Bitrate = codes "BITRATE"
part_text part.Number = codes "NUMBER"
part_text part.Size = codes "SIZE"

-- what is wanted of it
abbrev pub part_wants : Part → Text
part_wants part.Store = codes "a folder"
part_wants part.Host = codes "1 to 255 letters, digits, dots, hyphens and colons"
part_wants part.Port = codes "a number from 1 to 65535"
part_wants part.Path = codes "1 to 512 bytes without a question mark, control bytes and .isml/"
part_wants part.Id = codes "1 to 64 bytes of letters, digits, spaces and _ - ."
part_wants part.Stream = codes "1 to 64 bytes of letters, digits, spaces and _ - ."
part_wants part.Track = codes "a number from 1 to 4294967295"
part_wants part.Time = codes "a number from 0 to 9223372036854775807"
part_wants part.Name = codes "1 to 64 bytes of letters, digits, spaces and _ - ."
part_wants part.Bitrate = codes "a number from 0 to 4294967295"
part_wants part.Number = codes "a number from 0 to 2147483647"
part_wants part.Size = codes "a number from 0 to 2000"

abbrev pub is_number : ℕ → ℕ → Text → Bool
is_number low high text = is_some (numeral low high text)

abbrev pub is_filled : Text → Bool
is_filled text = is_some (filled text)

-- whether a text may be it
abbrev pub part_fits : Part → Text → Bool
part_fits part.Store text = is_filled text
part_fits part.Host text = is_host text
part_fits part.Port text = is_number 1 65535 text
part_fits part.Path text = is_path text
part_fits part.Id text = is_name text
part_fits part.Stream text = is_name text
part_fits part.Track text = is_number 1 (2 ^ 32 - 1) text
part_fits part.Time text = is_number 0 (2 ^ 63 - 1) text
part_fits part.Name text = is_name text
part_fits part.Bitrate text = is_number 0 (2 ^ 32 - 1) text
part_fits part.Number text = is_number 0 (2 ^ 31 - 1) text
part_fits part.Size text = is_number 0 2000 text

-- the words of a command, in their order
abbrev pub parts_of : Topic → List Part
parts_of topics.All = []
parts_of topics.Serve = part.Store ∷ []
parts_of topics.List = part.Store ∷ []
parts_of topics.Push = part.Host ∷ part.Port ∷ part.Path ∷ part.Id ∷ []
parts_of topics.Play = part.Host ∷ part.Port ∷ part.Path ∷ part.Stream ∷ []
parts_of topics.Relay = part.Host ∷ part.Port ∷ part.Path ∷ part.Store ∷ []
parts_of topics.Standby = part.Host ∷ part.Port ∷ part.Path ∷ part.Store ∷ []
parts_of topics.Pick = part.Track ∷ part.Time ∷ []
parts_of topics.Export = part.Store ∷ part.Name ∷ part.Bitrate ∷ []
parts_of topics.Rehearse = part.Number ∷ part.Size ∷ []

-- ---- options

abbrev pub options_of : Topic → List Name
options_of topics.All = []
options_of topics.Serve = serve_options
options_of topics.List = []
options_of topics.Push = []
options_of topics.Play = play_options
options_of topics.Relay = edge_options
options_of topics.Standby = edge_options
options_of topics.Pick = []
options_of topics.Export = []
options_of topics.Rehearse = []

-- what is wanted of an option's value
abbrev pub option_wants : Name → Text
option_wants options.Port = codes "a number from 1 to 65535"
option_wants options.Ladder = codes "no value"
option_wants options.Turns = codes "a number from 1 to 9223372036854775807"
option_wants options.Bind = codes "an address"
option_wants options.Journal = codes "a file"
option_wants options.Players = codes "a number from 1 to 16"
option_wants options.From = codes "a number from 0 to 9223372036854775807"
option_wants options.Count = codes "a number from 1 to 1000000"
option_wants options.Tries = codes "a number from 1 to 16"
option_wants options.Refresh = codes "a number from 1 to 10000"
option_wants options.Rounds = codes "a number from 1 to 1000000"

-- whether a text may be its value; a switch has none, which is the empty one
abbrev pub option_fits : Name → Text → Bool
option_fits options.Port text = is_number 1 65535 text
option_fits options.Ladder text = true
option_fits options.Turns text = is_number 1 (2 ^ 63 - 1) text
option_fits options.Bind text = is_filled text
option_fits options.Journal text = is_filled text
option_fits options.Players text = is_number 1 16 text
option_fits options.From text = is_number 0 (2 ^ 63 - 1) text
option_fits options.Count text = is_number 1 1000000 text
option_fits options.Tries text = is_number 1 16 text
option_fits options.Refresh text = is_number 1 10000 text
option_fits options.Rounds text = is_number 1 1000000 text
