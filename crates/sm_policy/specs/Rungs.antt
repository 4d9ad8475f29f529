-- Where a number that moves a step at a time goes from where it stands, with so many taken in a row since it last moved.
use Rattle.std.specs.Prelude.{ℕ, ◌+◌, ◌-◌, List, [], ◌∷◌, min, nat_le, if◌then◌else◌}
use Rattle.sm_policy.specs.declared.policy.Heard.{Heard}
use Rattle.sm_policy.specs.declared.policy.Outcome.{Outcome}
use Rattle.sm_policy.specs.declared.policy.Outcome.TheVariants.{Took, Missed}

abbrev pub row_after : ℕ → Outcome → ℕ
row_after row (Took bytes) = if nat_le 3 row then 0 else row + 1
row_after row Missed = 0

abbrev pub number_after : ℕ → ℕ → Outcome → ℕ
number_after number row (Took bytes) = if nat_le 3 row then min (number + 1) 63 else number
number_after number row Missed = number - 1

abbrev pub level_after : ℕ → ℕ → List Heard → ℕ
level_after number row [] = number
level_after number row (h ∷ hs) = level_after (number_after number row h.outcome) (row_after row h.outcome) hs
