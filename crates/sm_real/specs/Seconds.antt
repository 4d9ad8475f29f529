-- A moment as it stands in a line: seconds, with three digits behind a point.
use Rattle.std.specs.Prelude.{ℕ, List, [], ◌∷◌, ◌++◌, ◌+◌, ◌/◌, ◌%◌, decimal}

-- the last digit of a number, in ASCII
abbrev pub digit : ℕ → ℕ
digit n = 48 + n % 10

-- so many milliseconds
abbrev pub seconds : ℕ → List ℕ
seconds millis = decimal (millis / 1000) ++ 46 ∷ digit (millis / 100) ∷ digit (millis / 10) ∷ digit millis ∷ []

-- and a blank behind them
abbrev pub stamp : ℕ → List ℕ
stamp millis = seconds millis ++ 32 ∷ []
