-- Entries that are sorted, and the place of a start among them.
use Rattle.std.proofs.Common.{◌≡◌, ◌≢◌, ◌≤◌, ◌<◌, ◌+◌, ℕ, zero, suc, Bool, true, false, cond, eqb, ltb, List, [], ◌∷◌, length, get_or, Some, None, refl, ap, subst, ◌∙◌, arith, add-one}
use Rattle.std.proofs.lemmas.Bool.{eqb-true, eqb-false, ltb-true, ltb-false, eq-eqb}
use Rattle.std.proofs.lemmas.List.{get_or_default}
use Rattle.std.specs.List.{AllByRecursion, AllWithin, insert}
use Rattle.std.specs.List.Sorted.{IsNonDecreasingBy}
use Rattle.sm_log.specs.Times.{entry_at, with_entry, AreSorted}
use Rattle.sm_timeline.specs.Places.{place_in}
use Rattle.sm_log.proofs.Choice.{chosen}
use Rattle.sm_log.proofs.Entries.{no_later, all_later}

-- ---- places

pub place_within : (start : ℕ) (xs : List (ℕ × ℕ)) → place_in start xs ≤ length xs
place_within start [] = omega arith
place_within start (x ∷ xs) =
    chosen (ltb x.0 start) (λ (n : ℕ). n ≤ length (x ∷ xs)) (place_in start xs + 1) 0 (λ is. omega (arith, place_within start xs)) (λ is. omega arith)

head_later : (x : ℕ × ℕ) (xs : List (ℕ × ℕ)) (j : ℕ) (d : ℕ × ℕ) → AllByRecursion (λ (y : ℕ × ℕ). x.0 < y.0) xs → j < length xs → x.0 ≤ (get_or xs j d).0
head_later x [] j d all h = absurd (omega arith)
head_later x (y ∷ xs) zero d all h = omega (arith, all.0)
head_later x (y ∷ xs) (suc j) d all h = head_later x xs j d all.1 (omega arith)

pub rising : (xs : List (ℕ × ℕ)) → AreSorted xs → IsNonDecreasingBy (λ (x : ℕ × ℕ). x.0) xs
rising [] sorted i j d h k = absurd (omega (arith, k))
rising (x ∷ xs) sorted zero zero d h k = omega arith
rising (x ∷ xs) sorted zero (suc j) d h k = head_later x xs j d sorted.0 (omega (arith, k))
rising (x ∷ xs) sorted (suc i) zero d h k = absurd (omega (arith, h))
rising (x ∷ xs) sorted (suc i) (suc j) d h k = rising xs sorted.1 i j d (omega (arith, h)) (omega (arith, k))

-- what a search by halves gives
pub place_is : (start : ℕ) (xs : List (ℕ × ℕ)) (i : ℕ) → i ≤ length xs → AllWithin (λ (y : ℕ × ℕ). ltb y.0 start ≡ true) xs 0 i
    → AllWithin (λ (y : ℕ × ℕ). ltb y.0 start ≡ false) xs i (length xs) → i ≡ place_in start xs
place_is start [] i h before after = omega arith
place_is start (x ∷ xs) zero h before after =
    chosen (ltb x.0 start) (λ (n : ℕ). 0 ≡ n) (place_in start xs + 1) 0 (λ is. absurd (let not : ltb x.0 start ≡ false = after 0 x (omega arith) (omega arith) in cc)) (λ is. refl)
place_is start (x ∷ xs) (suc i) h before after =
    let rest : i ≡ place_in start xs = place_is start xs i (omega arith) (λ k d low high. before (suc k) d (omega arith) (omega (arith, high))) (λ k d low high. after (suc k) d (omega (arith, low)) (omega (arith, high))) in
    chosen (ltb x.0 start) (λ (n : ℕ). suc i ≡ n) (place_in start xs + 1) 0 (λ is. omega (arith, rest)) (λ is. absurd (let yes : ltb x.0 start ≡ true = before 0 x (omega arith) (omega arith) in cc))

-- an entry that stands at the place of its start is the one
pub entry_there : (start : ℕ) (xs : List (ℕ × ℕ)) (i : ℕ) (d : ℕ × ℕ) → i ≡ place_in start xs → i < length xs → (get_or xs i d).0 ≡ start → entry_at start xs ≡ Some (get_or xs i d).1
entry_there start [] i d is within same = absurd (omega arith)
entry_there start (x ∷ xs) i d is within same = by_test (ltb x.0 start) refl i is within same (λ j k w s. entry_there start xs j d k w s)
  where
    by_test : (b : Bool) → ltb x.0 start ≡ b → (i : ℕ) → i ≡ cond b (place_in start xs + 1) 0 → i < suc (length xs) → (get_or (x ∷ xs) i d).0 ≡ start
        → ((j : ℕ) → j ≡ place_in start xs → j < length xs → (get_or xs j d).0 ≡ start → entry_at start xs ≡ Some (get_or xs j d).1)
        → cond (eqb x.0 start) (Some x.1) (entry_at start xs) ≡ Some (get_or (x ∷ xs) i d).1
    by_test true t zero is within same rest = absurd (omega arith)
    by_test true t (suc i) is within same rest =
        chosen (eqb x.0 start) (λ o. o ≡ Some (get_or xs i d).1) (Some x.1) (entry_at start xs) (λ e. absurd (omega (arith, eqb-true x.0 start e, ltb-true x.0 start t))) (λ e. rest i (omega (arith, is)) (omega (arith, within)) same)
    by_test false t zero is within same rest = rw (eq-eqb x.0 start same) refl
    by_test false t (suc i) is within same rest = absurd (omega (arith, is))

-- where another stands at the place of the start, or none does, none starts there
pub entry_absent : (start : ℕ) (xs : List (ℕ × ℕ)) → AreSorted xs → ((d : ℕ × ℕ) → place_in start xs < length xs → (get_or xs (place_in start xs) d).0 ≢ start) → entry_at start xs ≡ None
entry_absent start [] sorted other = refl
entry_absent start (x ∷ xs) sorted other = by_test (ltb x.0 start) refl other (λ o. entry_absent start xs sorted.1 o)
  where
    by_test : (b : Bool) → ltb x.0 start ≡ b → ((d : ℕ × ℕ) → cond b (place_in start xs + 1) 0 < suc (length xs) → (get_or (x ∷ xs) (cond b (place_in start xs + 1) 0) d).0 ≢ start)
        → (((d : ℕ × ℕ) → place_in start xs < length xs → (get_or xs (place_in start xs) d).0 ≢ start) → entry_at start xs ≡ None)
        → cond (eqb x.0 start) (Some x.1) (entry_at start xs) ≡ None
    by_test true t other rest =
        chosen (eqb x.0 start) (λ o. o ≡ None) (Some x.1) (entry_at start xs) (λ e. absurd (omega (arith, eqb-true x.0 start e, ltb-true x.0 start t))) (λ e. rest (λ d h. (rw add-one at (other d)) (omega (arith, h))))
    by_test false t other rest =
        chosen (eqb x.0 start) (λ o. o ≡ None) (Some x.1) (entry_at start xs) (λ e. absurd (other x (omega arith) (eqb-true x.0 start e))) (λ e. no_later start xs (all_later start x.0 xs (ltb-false x.0 start t) sorted.0))

-- ---- one entry more

-- one that isn't there goes to its place
pub put_in : (start value : ℕ) (xs : List (ℕ × ℕ)) → entry_at start xs ≡ None → with_entry start value xs ≡ insert xs (place_in start xs) (start, value)
put_in start value [] e = refl
put_in start value (x ∷ xs) e = by_test (ltb x.0 start) (ltb start x.0) (eqb x.0 start) refl refl refl e (λ k. put_in start value xs k)
  where
    by_test : (a b c : Bool) → ltb x.0 start ≡ a → ltb start x.0 ≡ b → eqb x.0 start ≡ c → cond c (Some x.1) (entry_at start xs) ≡ None
        → (entry_at start xs ≡ None → with_entry start value xs ≡ insert xs (place_in start xs) (start, value))
        → cond b ((start, value) ∷ x ∷ xs) (cond c (x ∷ xs) (x ∷ with_entry start value xs)) ≡ insert (x ∷ xs) (cond a (place_in start xs + 1) 0) (start, value)
    by_test a b true r t u e rest = absurd cc
    by_test true true false r t u e rest = absurd (omega (arith, ltb-true x.0 start r, ltb-true start x.0 t))
    by_test true false false r t u e rest = rw add-one (ap (λ l. x ∷ l) (rest e))
    by_test false true false r t u e rest = refl
    by_test false false false r t u e rest = absurd (omega (arith, ltb-false x.0 start r, ltb-false start x.0 t, eqb-false x.0 start u))

-- the same by a place that was computed, read at one default
pub absent_at : (start : ℕ) (xs : List (ℕ × ℕ)) (i : ℕ) → AreSorted xs → i ≡ place_in start xs → (i < length xs → (get_or xs i (0, 0)).0 ≢ start) → entry_at start xs ≡ None
absent_at start xs i sorted is other =
    let there : place_in start xs < length xs → (get_or xs (place_in start xs) (0, 0)).0 ≢ start = subst (λ (j : ℕ). j < length xs → (get_or xs j (0, 0)).0 ≢ start) is other in
    entry_absent start xs sorted (λ d h e. there h (ap (λ (x : ℕ × ℕ). x.0) (get_or_default xs (place_in start xs) (0, 0) d h) ∙ e))

pub there_at : (start : ℕ) (xs : List (ℕ × ℕ)) (i : ℕ) → i ≡ place_in start xs → i < length xs → (get_or xs i (0, 0)).0 ≡ start → (d : ℕ × ℕ) → entry_at start xs ≡ Some (get_or xs i d).1
there_at start xs i is within same d =
    entry_there start xs i d is within (ap (λ (x : ℕ × ℕ). x.0) (get_or_default xs i d (0, 0) within) ∙ same)
