-- Bytes of a window.
use Rattle.std.proofs.Common.{rules, ◌≡◌, ℕ, ◌+◌, ◌-◌, ◌≤◌, List, length, take, drop, ◌∙◌, ap, arith}
use Rattle.std.proofs.lemmas.List.{same_lists, places}
use Rattle.sm_site.specs.Clauses.{read}

-- bytes inside what was read are what a read of them gives
inside : (bytes : List ℕ) (start at n m : ℕ) → start ≤ at → at - start + m ≤ n → take m (drop (at - start) (read bytes start n)) ≡ read bytes at m
inside bytes start at n m below covers = same_lists _ _ (search (rules, places)) (λ k d h. grind (arith, places))

pub five_read : (bytes window front : List ℕ) (start at : ℕ) → window ≡ read bytes start (length window) → start ≤ at → at - start + 5 ≤ length window
    → front ≡ take 5 (drop (at - start) window) → front ≡ read bytes at 5
five_read bytes window front start at is below covers five =
    five ∙ ap (λ (l : List ℕ). take 5 (drop (at - start) l)) is ∙ inside bytes start at (length window) 5 below covers
