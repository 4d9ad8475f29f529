-- What contracts see of sorted entries and of a timeline.
use Rattle.std.specs.Prelude.{◌≡◌, ℕ, ◌+◌, min, List, [], ◌∷◌, length, nat_lt, ◌==◌, if◌then◌else◌}
use Rattle.sm_log.specs.Times.{AreTimes}

-- the entries in order of time, and for how many more there is room
pub record Entries : Type 0 where
  pub entries : List (ℕ × ℕ)
  pub room : ℕ

-- the times in order, for each of them how many fragments start there, and for how many more times there is room
pub record Line : Type 0 where
  pub times : List (ℕ × ℕ)
  pub counts : List ℕ
  pub spare : ℕ

-- a count of 32 bits stands still at its end
abbrev pub more : ℕ → ℕ
more count = min (count + 1) 4294967295

-- how many fragments start there
abbrev pub count_at : ℕ → List (ℕ × ℕ) → List ℕ → ℕ
count_at start [] cs = 0
count_at start (x ∷ xs) [] = 0
count_at start (x ∷ xs) (c ∷ cs) = if x.0 == start then c else count_at start xs cs

-- the counts with one more fragment that starts there
abbrev pub counted : ℕ → List (ℕ × ℕ) → List ℕ → List ℕ
counted start [] cs = 1 ∷ cs
counted start (x ∷ xs) [] = 1 ∷ []
counted start (x ∷ xs) (c ∷ cs) =
    if nat_lt start x.0 then 1 ∷ c ∷ cs
    else if x.0 == start then more c ∷ cs
    else c ∷ counted start xs cs

-- the times are apart, and each has a count
pub record IsLine (times : List (ℕ × ℕ)) (counts : List ℕ) : Type 0 where
  pub apart : AreTimes times
  pub as_many : length counts ≡ length times
