-- The number that moves a step at a time is the one that the whole list gives.
use Rattle.std.proofs.Common.{◌≡◌, ℕ, ◌+◌, ◌%◌, ◌==◌, List, [], ◌∷◌, min, nat_le, if◌then◌else◌, refl, arith}
use mathlib.Core.List.{reverse_aux}
use Rattle.sm_policy.specs.declared.policy.Heard.{Heard}
use Rattle.sm_policy.specs.declared.policy.Outcome.{Outcome}
use Rattle.sm_policy.specs.declared.policy.Outcome.TheVariants.{Took, Missed}
use Rattle.sm_policy.specs.Counts.{row_with, in_a_row, moved, number_behind}
use Rattle.sm_policy.specs.Rungs.{row_after, number_after, level_after}

number_next : (k r n : ℕ) → r ≡ k % 4 → (if nat_le 3 r then min (n + 1) 63 else n) ≡ (if (k + 1) % 4 == 0 then min (n + 1) 63 else n)
number_next k r n e = grind arith

row_step : (o : Outcome) (k r : ℕ) → r ≡ k % 4 → row_after r o ≡ row_with o k % 4
row_step (Took bytes) k r e = grind arith
row_step Missed k r e = refl

number_step : (o : Outcome) (k r n : ℕ) → r ≡ k % 4 → number_after n r o ≡ moved o (row_with o k) n
number_step (Took bytes) k r n e = number_next k r n e
number_step Missed k r n e = refl

pub climbs : (hs before : List Heard) (n r : ℕ) → n ≡ number_behind before → r ≡ in_a_row before % 4
    → level_after n r hs ≡ number_behind (reverse_aux hs before)
climbs [] before n r en er = en
climbs (h ∷ hs) before n r en er =
    climbs hs (h ∷ before) _ _ (rw en (number_step h.outcome (in_a_row before) r (number_behind before) er)) (row_step h.outcome (in_a_row before) r er)
