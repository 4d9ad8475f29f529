-- Times that are apart, and what overlaps a span whose start isn't among them.
use Rattle.std.proofs.Common.{◌≡◌, ◌≤◌, ◌<◌, ◌+◌, ℕ, zero, suc, Bool, true, false, cond, eqb, ltb, List, [], ◌∷◌, length, get_or, Some, None, refl, ◌∙◌, arith}
use Rattle.std.proofs.lemmas.Bool.{eqb-false, ltb-true, ltb-false}
use Rattle.std.specs.List.{AllByRecursion}
use Rattle.sm_log.specs.Times.{entry_at, AreTimes, IsSpan, do_overlap, overlapped_end}
use Rattle.sm_timeline.specs.Places.{place_in}
use Rattle.sm_log.specs.Times.{ends}
use Rattle.sm_log.proofs.Apart.{is_over, not_before, not_behind, passed, met, none_behind, all_behind}

-- ---- tests of two spans

-- ---- times

pub span_at : (xs : List (ℕ × ℕ)) (i : ℕ) (d : ℕ × ℕ) → AreTimes xs → i < length xs → IsSpan (get_or xs i d)
span_at [] i d times within = absurd (omega arith)
span_at (x ∷ xs) zero d times within = times.0
span_at (x ∷ xs) (suc i) d times within = span_at xs i d times.2 (omega arith)

-- something starts before t among those that start at e or later
head_before : (t e : ℕ) (xs : List (ℕ × ℕ)) (k : ℕ) → suc k ≡ place_in t xs → AllByRecursion (λ (y : ℕ × ℕ). e ≤ y.0) xs → e ≤ t
head_before t e [] k is all = absurd (omega arith)
head_before t e (x ∷ xs) k is all = by_test (ltb x.0 t) refl is
  where
    by_test : (b : Bool) → ltb x.0 t ≡ b → suc k ≡ cond b (place_in t xs + 1) 0 → e ≤ t
    by_test true r is = omega (arith, ltb-true x.0 t r, all.0)
    by_test false r is = absurd (omega (arith, is))

-- ---- what overlaps

-- the one before the place reaches over t
pub over_before : (t d : ℕ) (xs : List (ℕ × ℕ)) (j : ℕ) → AreTimes xs → suc j ≡ place_in t xs → t < ends (get_or xs j (0, 0)) → overlapped_end (t, d) xs ≡ Some (ends (get_or xs j (0, 0)))
over_before t d [] j times is over = absurd (omega arith)
over_before t d (x ∷ xs) j times is over = by_test (ltb x.0 t) refl j is over (λ k e o. over_before t d xs k times.2 e o)
  where
    by_test : (b : Bool) → ltb x.0 t ≡ b → (j : ℕ) → suc j ≡ cond b (place_in t xs + 1) 0 → t < ends (get_or (x ∷ xs) j (0, 0))
        → ((k : ℕ) → suc k ≡ place_in t xs → t < ends (get_or xs k (0, 0)) → overlapped_end (t, d) xs ≡ Some (ends (get_or xs k (0, 0))))
        → overlapped_end (t, d) (x ∷ xs) ≡ Some (ends (get_or (x ∷ xs) j (0, 0)))
    by_test true r zero is over rest = met x xs t d (is_over x t d (omega (arith, ltb-true x.0 t r)) over)
    by_test true r (suc k) is over rest =
        let at : suc k ≡ place_in t xs = omega (arith, is) in
        passed x xs t d (not_before x t d (head_before t (ends x) xs k at times.1)) ∙ rest k at over
    by_test false r j is over rest = absurd (omega (arith, is))

-- the ones before the place end by t, so that the one at the place is the first that may overlap
front_passed : (t d : ℕ) (x : ℕ × ℕ) (xs : List (ℕ × ℕ)) (i : ℕ) → AllByRecursion (λ (y : ℕ × ℕ). ends x ≤ y.0) xs → i ≡ place_in t xs
    → ((j : ℕ) → suc j ≡ suc i → ends (get_or (x ∷ xs) j (0, 0)) ≤ t) → do_overlap x (t, d) ≡ false
front_passed t d x xs zero all is front = not_before x t d (front 0 refl)
front_passed t d x xs (suc k) all is front = not_before x t d (head_before t (ends x) xs k is all)

pub over_behind : (t d : ℕ) (xs : List (ℕ × ℕ)) (i : ℕ) → AreTimes xs → entry_at t xs ≡ None → i ≡ place_in t xs → ((j : ℕ) → suc j ≡ i → ends (get_or xs j (0, 0)) ≤ t)
    → i < length xs → (get_or xs i (0, 0)).0 < t + d → overlapped_end (t, d) xs ≡ Some (ends (get_or xs i (0, 0)))
over_behind t d [] i times none is front within over = absurd (omega arith)
over_behind t d (x ∷ xs) i times none is front within over = by_test (ltb x.0 t) (eqb x.0 t) refl refl none i is front within over (λ n k e f w o. over_behind t d xs k times.2 n e f w o)
  where
    by_test : (b c : Bool) → ltb x.0 t ≡ b → eqb x.0 t ≡ c → cond c (Some x.1) (entry_at t xs) ≡ None → (i : ℕ) → i ≡ cond b (place_in t xs + 1) 0
        → ((j : ℕ) → suc j ≡ i → ends (get_or (x ∷ xs) j (0, 0)) ≤ t)
        → i < suc (length xs) → (get_or (x ∷ xs) i (0, 0)).0 < t + d
        → (entry_at t xs ≡ None → (k : ℕ) → k ≡ place_in t xs → ((j : ℕ) → suc j ≡ k → ends (get_or xs j (0, 0)) ≤ t)
        → k < length xs → (get_or xs k (0, 0)).0 < t + d → overlapped_end (t, d) xs ≡ Some (ends (get_or xs k (0, 0))))
        → overlapped_end (t, d) (x ∷ xs) ≡ Some (ends (get_or (x ∷ xs) i (0, 0)))
    by_test b true r u none i is front within over rest = absurd cc
    by_test true false r u none zero is front within over rest = absurd (omega (arith, is))
    by_test true false r u none (suc k) is front within over rest =
        let at : k ≡ place_in t xs = omega (arith, is) in
        passed x xs t d (front_passed t d x xs k times.1 at front) ∙ rest none k at (λ j e. front (suc j) (omega (arith, e))) (omega (arith, within)) over
    by_test false false r u none zero is front within over rest =
        met x xs t d (is_over x t d over (omega (arith, ltb-false x.0 t r, eqb-false x.0 t u, times.0.0)))
    by_test false false r u none (suc k) is front within over rest = absurd (omega (arith, is))

pub over_none : (t d : ℕ) (xs : List (ℕ × ℕ)) (i : ℕ) → AreTimes xs → i ≡ place_in t xs → ((j : ℕ) → suc j ≡ i → ends (get_or xs j (0, 0)) ≤ t)
    → (i < length xs → t + d ≤ (get_or xs i (0, 0)).0) → overlapped_end (t, d) xs ≡ None
over_none t d [] i times is front behind = refl
over_none t d (x ∷ xs) i times is front behind = by_test (ltb x.0 t) refl i is front behind (λ k e f w. over_none t d xs k times.2 e f w)
  where
    by_test : (b : Bool) → ltb x.0 t ≡ b → (i : ℕ) → i ≡ cond b (place_in t xs + 1) 0 → ((j : ℕ) → suc j ≡ i → ends (get_or (x ∷ xs) j (0, 0)) ≤ t)
        → (i < suc (length xs) → t + d ≤ (get_or (x ∷ xs) i (0, 0)).0)
        → ((k : ℕ) → k ≡ place_in t xs → ((j : ℕ) → suc j ≡ k → ends (get_or xs j (0, 0)) ≤ t) → (k < length xs → t + d ≤ (get_or xs k (0, 0)).0) → overlapped_end (t, d) xs ≡ None)
        → overlapped_end (t, d) (x ∷ xs) ≡ None
    by_test true r zero is front behind rest = absurd (omega (arith, is))
    by_test true r (suc k) is front behind rest =
        let at : k ≡ place_in t xs = omega (arith, is) in
        passed x xs t d (front_passed t d x xs k times.1 at front) ∙ rest k at (λ j e. front (suc j) (omega (arith, e))) (λ w. behind (omega (arith, w)))
    by_test false r zero is front behind rest =
        let far : t + d ≤ x.0 = behind (omega arith) in
        passed x xs t d (not_behind x t d far) ∙ none_behind t d xs (all_behind (t + d) (ends x) xs (omega (arith, far)) times.1)
    by_test false r (suc k) is front behind rest = absurd (omega (arith, is))
