-- What is heard of requests, counted.
use Rattle.std.specs.Prelude.{ℕ, ◌+◌, ◌-◌, ◌%◌, ◌==◌, List, [], ◌∷◌, min, reverse, if◌then◌else◌}
use Rattle.sm_policy.specs.declared.policy.Heard.{Heard}
use Rattle.sm_policy.specs.declared.policy.Outcome.{Outcome}
use Rattle.sm_policy.specs.declared.policy.Outcome.TheVariants.{Took, Missed}

abbrev pub missed_of : Outcome → ℕ
missed_of (Took bytes) = 0
missed_of Missed = 1

-- how many missed
abbrev pub misses : List Heard → ℕ
misses [] = 0
misses (h ∷ hs) = missed_of h.outcome + misses hs

-- a row with one outcome more
abbrev pub row_with : Outcome → ℕ → ℕ
row_with (Took bytes) row = row + 1
row_with Missed row = 0

-- how many were taken in a row, up to the latest, which stands first
abbrev pub in_a_row : List Heard → ℕ
in_a_row [] = 0
in_a_row (h ∷ before) = row_with h.outcome (in_a_row before)

-- the number behind an outcome: one more, to at most 63, at each fourth in a row that is taken, and one less, to at least 0, at a miss
abbrev pub moved : Outcome → ℕ → ℕ → ℕ
moved (Took bytes) row number = if row % 4 == 0 then min (number + 1) 63 else number
moved Missed row number = number - 1

-- where the number stands, from 0, once these were heard, the latest first
abbrev pub number_behind : List Heard → ℕ
number_behind [] = 0
number_behind (h ∷ before) = moved h.outcome (in_a_row (h ∷ before)) (number_behind before)

-- where it stands once these were heard, in order
abbrev pub number_of : List Heard → ℕ
number_of hs = number_behind (reverse hs)
