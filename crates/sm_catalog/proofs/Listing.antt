-- One time more that is listed.
use Rattle.std.proofs.Common.{◌≡◌, ◌≢◌, ◌<◌, ℕ, Bool, true, false, cond, eqb, ltb, List, [], ◌∷◌, filter, Some, refl, sym, ap, ◌∙◌, arith}
use Rattle.std.proofs.lemmas.Bool.{eqb-true, eqb-false, ltb-true, ltb-false}
use Rattle.std.specs.List.{AllByRecursion}
use Rattle.sm_log.specs.Times.{entry_at, with_entry, AreSorted}
use Rattle.sm_log.proofs.Choice.{chosen}
use Rattle.sm_log.proofs.Entries.{all_later}

pub all_filter : (P : ℕ × ℕ → Type 0) (p : ℕ × ℕ → Bool) (xs : List (ℕ × ℕ)) → AllByRecursion P xs → AllByRecursion P (filter p xs)
all_filter P p [] all = tt
all_filter P p (x ∷ xs) all =
    chosen (p x) (λ l. AllByRecursion P l) (x ∷ filter p xs) (filter p xs) (λ _. (all.0, all_filter P p xs all.1)) (λ _. all_filter P p xs all.1)

pub sorted_filter : (p : ℕ × ℕ → Bool) (xs : List (ℕ × ℕ)) → AreSorted xs → AreSorted (filter p xs)
sorted_filter p [] sorted = tt
sorted_filter p (x ∷ xs) sorted =
    chosen (p x) AreSorted (x ∷ filter p xs) (filter p xs) (λ _. (all_filter (λ (y : ℕ × ℕ). x.0 < y.0) p xs sorted.0, sorted_filter p xs sorted.1)) (λ _. sorted_filter p xs sorted.1)

-- two tests that agree behind t keep the same behind t
filter_behind : (p q : ℕ × ℕ → Bool) (t : ℕ) (xs : List (ℕ × ℕ)) → ((x : ℕ × ℕ) → x.0 ≢ t → q x ≡ p x) → AllByRecursion (λ (y : ℕ × ℕ). t < y.0) xs → filter q xs ≡ filter p xs
filter_behind p q t [] same all = refl
filter_behind p q t (x ∷ xs) same all =
    let first : q x ≡ p x = same x (λ e. omega (arith, e, all.0)) in
    let rest = filter_behind p q t xs same all.1 in
    rw (first, rest) refl

front_with : (t v : ℕ) (ys : List (ℕ × ℕ)) → AllByRecursion (λ (y : ℕ × ℕ). t < y.0) ys → with_entry t v ys ≡ (t, v) ∷ ys
front_with t v [] all = refl
front_with t v (y ∷ ys) all =
    chosen (ltb t y.0) (λ l. l ≡ (t, v) ∷ y ∷ ys) ((t, v) ∷ y ∷ ys) (cond (eqb y.0 t) (y ∷ ys) (y ∷ with_entry t v ys)) (λ _. refl) (λ is. absurd (omega (arith, ltb-false t y.0 is, all.0)))

past_with : (t v : ℕ) (y : ℕ × ℕ) (ys : List (ℕ × ℕ)) → y.0 < t → with_entry t v (y ∷ ys) ≡ y ∷ with_entry t v ys
past_with t v y ys less =
    chosen (ltb t y.0) (λ l. l ≡ y ∷ with_entry t v ys) ((t, v) ∷ y ∷ ys) (cond (eqb y.0 t) (y ∷ ys) (y ∷ with_entry t v ys)) (λ is. absurd (omega (arith, ltb-true t y.0 is, less)))
    (λ _. chosen (eqb y.0 t) (λ l. l ≡ y ∷ with_entry t v ys) (y ∷ ys) (y ∷ with_entry t v ys) (λ e. absurd (omega (arith, eqb-true y.0 t e, less))) (λ _. refl))

-- a time t more, at which the test was false and alone may have changed
pub filter_with : (p q : ℕ × ℕ → Bool) (t v : ℕ) (xs : List (ℕ × ℕ)) → AreSorted xs → ((x : ℕ × ℕ) → x.0 ≢ t → q x ≡ p x) → p (t, v) ≡ false → ((w : ℕ) → entry_at t xs ≡ Some w → w ≡ v)
    → filter q (with_entry t v xs) ≡ cond (q (t, v)) (with_entry t v (filter p xs)) (filter p xs)
filter_with p q t v [] sorted same off kept = refl
filter_with p q t v (x ∷ xs) sorted same off kept = by_test (ltb t x.0) (eqb x.0 t) refl refl kept (λ k. filter_with p q t v xs sorted.1 same off k)
  where
    behind : (c : Bool) → q (t, v) ≡ c → (ys : List (ℕ × ℕ)) → AllByRecursion (λ (y : ℕ × ℕ). t < y.0) ys → cond c ((t, v) ∷ filter q ys) (filter q ys) ≡ cond c (with_entry t v (filter p ys)) (filter p ys)
    behind true is ys all = rw (front_with t v (filter p ys) (all_filter (λ (y : ℕ × ℕ). t < y.0) p ys all), filter_behind p q t ys same all) refl
    behind false is ys all = filter_behind p q t ys same all

    step : (a b : Bool) → x.0 < t → cond a (x ∷ cond b (with_entry t v (filter p xs)) (filter p xs)) (cond b (with_entry t v (filter p xs)) (filter p xs)) ≡ cond b (with_entry t v (cond a (x ∷ filter p xs) (filter p xs)))
        (cond a (x ∷ filter p xs) (filter p xs))
    step true true less = sym (past_with t v x (filter p xs) less)
    step true false less = refl
    step false true less = refl
    step false false less = refl

    by_test : (a b : Bool) → ltb t x.0 ≡ a → eqb x.0 t ≡ b → ((w : ℕ) → cond b (Some x.1) (entry_at t xs) ≡ Some w → w ≡ v)
        → (((w : ℕ) → entry_at t xs ≡ Some w → w ≡ v) → filter q (with_entry t v xs) ≡ cond (q (t, v)) (with_entry t v (filter p xs)) (filter p xs))
        → filter q (cond a ((t, v) ∷ x ∷ xs) (cond b (x ∷ xs) (x ∷ with_entry t v xs))) ≡ cond (q (t, v)) (with_entry t v (filter p (x ∷ xs))) (filter p (x ∷ xs))
    by_test true b r u kept rest =
        let less : t < x.0 = ltb-true t x.0 r in
        behind (q (t, v)) refl (x ∷ xs) (less, all_later t x.0 xs (omega (arith, less)) sorted.0)
    by_test false true r u kept rest =
        let at : x.0 ≡ t = eqb-true x.0 t u in
        let value : x.1 ≡ v = kept x.1 refl in
        let is : x ≡ (t, v) = ap (λ (n : ℕ). (n, x.1)) at ∙ ap (λ (n : ℕ). (t, n)) value in
        let was : p x ≡ false = ap p is ∙ off in
        let late : AllByRecursion (λ (y : ℕ × ℕ). t < y.0) xs = all_later t x.0 xs (omega (arith, at)) sorted.0 in
        rw (was, is) (behind (q (t, v)) refl xs late)
    by_test false false r u kept rest =
        let less : x.0 < t = omega (arith, ltb-false t x.0 r, eqb-false x.0 t u) in
        let first : q x ≡ p x = same x (λ e. eqb-false x.0 t u e) in
        rw (first, rest kept) (step (p x) (q (t, v)) less)

-- where nothing changes, nothing does
pub filter_same : (p q : ℕ × ℕ → Bool) (xs : List (ℕ × ℕ)) → ((x : ℕ × ℕ) → q x ≡ p x) → filter q xs ≡ filter p xs
filter_same p q [] same = refl
filter_same p q (x ∷ xs) same = let first = same x in let rest = filter_same p q xs same in rw (first, rest) refl
