-- The options of the commands.
use Rattle.std.specs.Prelude.{ℕ, Bool, true, false, List, codes, ◌==◌, [], ◌∷◌}
use Rattle.sm_words.specs.declared.option.Name.{Name}
use Rattle.sm_words.specs.declared.option.Name.TheVariants.{Port, Ladder, Turns, Bind, Journal, Players, From, Count, Tries, Refresh, Rounds}

-- as it is written
abbrev pub text_of : Name → List ℕ
text_of Port = codes "--port"
text_of Ladder = codes "--ladder"
text_of Turns = codes "--turns"
text_of Bind = codes "--bind"
text_of Journal = codes "--journal"
text_of Players = codes "--players"
text_of From = codes "--from"
text_of Count = codes "--count"
text_of Tries = codes "--tries"
text_of Refresh = codes "--refresh"
text_of Rounds = codes "--rounds"

-- whether a value belongs to it
abbrev pub has_value : Name → Bool
has_value Port = true
has_value Ladder = false
has_value Turns = true
has_value Bind = true
has_value Journal = true
has_value Players = true
has_value From = true
has_value Count = true
has_value Tries = true
has_value Refresh = true
has_value Rounds = true

abbrev pub number_of : Name → ℕ
number_of Port = 0
number_of Ladder = 1
number_of Turns = 2
number_of From = 3
number_of Count = 4
number_of Tries = 5
number_of Refresh = 6
number_of Bind = 7
number_of Journal = 8
number_of Rounds = 9
number_of Players = 10

abbrev pub is_same : Name → Name → Bool
is_same a b = number_of a == number_of b

-- the options of `serve`
abbrev pub serve_options : List Name
serve_options = Port ∷ Ladder ∷ Turns ∷ Bind ∷ Journal ∷ Players ∷ []

-- the options of `play`
abbrev pub play_options : List Name
play_options = From ∷ Count ∷ Tries ∷ Refresh ∷ []

-- the options of `relay` and of `standby`
abbrev pub edge_options : List Name
edge_options = Rounds ∷ Tries ∷ Journal ∷ []
