-- Entries that are sorted, looked up and put.
use Rattle.std.proofs.Common.{◌≡◌, ◌≤◌, ◌<◌, ℕ, Bool, true, false, cond, eqb, ltb, List, [], ◌∷◌, Option, Some, None, refl, sym, ap, subst, ◌∙◌, arith}
use Rattle.std.proofs.lemmas.Bool.{eqb-true, eqb-false, ltb-true, ltb-false, eq-eqb, ne_eqb}
use Rattle.std.specs.Option.{IfSome}
use Rattle.std.specs.List.{AllByRecursion}
use Rattle.sm_log.specs.Times.{entry_at, with_entry, AreSorted}
use Rattle.sm_log.proofs.Choice.{chosen}

pub no_later : (start : ℕ) (xs : List (ℕ × ℕ)) → AllByRecursion (λ (y : ℕ × ℕ). start < y.0) xs → entry_at start xs ≡ None
no_later start [] h = refl
no_later start (x ∷ xs) h =
    chosen (eqb x.0 start) (λ o. o ≡ None) (Some x.1) (entry_at start xs) (λ is. absurd (omega (arith, eqb-true x.0 start is, h.0))) (λ is. no_later start xs h.1)

pub all_later : (a b : ℕ) (xs : List (ℕ × ℕ)) → a ≤ b → AllByRecursion (λ (y : ℕ × ℕ). b < y.0) xs → AllByRecursion (λ (y : ℕ × ℕ). a < y.0) xs
all_later a b [] h all = tt
all_later a b (x ∷ xs) h all = (omega (arith, all.0, h), all_later a b xs h all.1)

-- ---- one entry more

pub all_with : (P : ℕ × ℕ → Type 0) (start value : ℕ) (xs : List (ℕ × ℕ)) → P (start, value) → AllByRecursion P xs → AllByRecursion P (with_entry start value xs)
all_with P start value [] p all = (p, tt)
all_with P start value (x ∷ xs) p all =
    chosen (ltb start x.0) (λ l. AllByRecursion P l) ((start, value) ∷ x ∷ xs) (cond (eqb x.0 start) (x ∷ xs) (x ∷ with_entry start value xs)) (λ is. (p, all))
    (λ is. chosen (eqb x.0 start) (λ l. AllByRecursion P l) (x ∷ xs) (x ∷ with_entry start value xs) (λ e. all) (λ e. (all.0, all_with P start value xs p all.1)))

pub sorted_with : (start value : ℕ) (xs : List (ℕ × ℕ)) → AreSorted xs → AreSorted (with_entry start value xs)
sorted_with start value [] sorted = (tt, tt)
sorted_with start value (x ∷ xs) sorted =
    chosen (ltb start x.0) AreSorted ((start, value) ∷ x ∷ xs) (cond (eqb x.0 start) (x ∷ xs) (x ∷ with_entry start value xs))
    (λ is. let less : start < x.0 = ltb-true start x.0 is in ((less, all_later start x.0 xs (omega (arith, less)) sorted.0), sorted))
    (λ is. chosen (eqb x.0 start) AreSorted (x ∷ xs) (x ∷ with_entry start value xs) (λ e. sorted)
    (λ e. let apart = eqb-false x.0 start e in let least = ltb-false start x.0 is in (all_with (λ (y : ℕ × ℕ). x.0 < y.0) start value xs (omega (arith, apart, least)) sorted.0, sorted_with start value xs sorted.1)))

-- one that stands there stays
pub stays : (start value kept : ℕ) (xs : List (ℕ × ℕ)) → AreSorted xs → entry_at start xs ≡ Some kept → with_entry start value xs ≡ xs
stays start value kept [] sorted e = absurd cc
stays start value kept (x ∷ xs) sorted e = by_test (ltb start x.0) (eqb x.0 start) refl refl e (λ k. stays start value kept xs sorted.1 k)
  where
    by_test : (b c : Bool) → ltb start x.0 ≡ b → eqb x.0 start ≡ c → cond c (Some x.1) (entry_at start xs) ≡ Some kept → (entry_at start xs ≡ Some kept → with_entry start value xs ≡ xs)
        → cond b ((start, value) ∷ x ∷ xs) (cond c (x ∷ xs) (x ∷ with_entry start value xs)) ≡ x ∷ xs
    by_test true true t u e rest = absurd (omega (arith, ltb-true start x.0 t, eqb-true x.0 start u))
    by_test true false t u e rest =
        let less : start < x.0 = ltb-true start x.0 t in
        let none = no_later start xs (all_later start x.0 xs (omega (arith, less)) sorted.0) in
        absurd cc
    by_test false true t u e rest = refl
    by_test false false t u e rest = ap (λ l. x ∷ l) (rest e)

-- the first of two that is there
abbrev pub or_place : Option ℕ → Option ℕ → Option ℕ
or_place None other = other
or_place (Some place) other = Some place

pub entry_with : (u t v : ℕ) (xs : List (ℕ × ℕ)) → AreSorted xs → entry_at u (with_entry t v xs) ≡ cond (eqb t u) (or_place (entry_at u xs) (Some v)) (entry_at u xs)
entry_with u t v [] sorted = refl
entry_with u t v (x ∷ xs) sorted = by_test (ltb t x.0) (eqb x.0 t) (eqb t u) (eqb x.0 u) refl refl refl refl (entry_with u t v xs sorted.1)
  where
    by_test : (a b c d : Bool) → ltb t x.0 ≡ a → eqb x.0 t ≡ b → eqb t u ≡ c → eqb x.0 u ≡ d
        → entry_at u (with_entry t v xs) ≡ cond (eqb t u) (or_place (entry_at u xs) (Some v)) (entry_at u xs)
        → entry_at u (cond a ((t, v) ∷ x ∷ xs) (cond b (x ∷ xs) (x ∷ with_entry t v xs))) ≡ cond c (or_place (cond d (Some x.1) (entry_at u xs)) (Some v)) (cond d (Some x.1) (entry_at u xs))
    by_test true b true true q r i j rest = absurd (omega (arith, ltb-true t x.0 q, eqb-true t u i, eqb-true x.0 u j))
    by_test true b true false q r i j rest =
        let less : t < x.0 = ltb-true t x.0 q in
        let none = no_later u xs (all_later u x.0 xs (omega (arith, less, eqb-true t u i)) sorted.0) in
        rw (i, none) refl
    by_test true b false d q r i j rest = rw (i, j) refl
    by_test false true c true q r i j rest = let same : eqb t u ≡ true = eq-eqb t u (omega (arith, eqb-true x.0 t r, eqb-true x.0 u j)) in rw j (rw (sym i ∙ same) refl)
    by_test false true c false q r i j rest = let other : eqb t u ≡ false = ne_eqb t u (λ e. eqb-false x.0 u j (omega (arith, e, eqb-true x.0 t r))) in rw j (rw (sym i ∙ other) refl)
    by_test false false true true q r i j rest = absurd (eqb-false x.0 t r (omega (arith, eqb-true t u i, eqb-true x.0 u j)))
    by_test false false true false q r i j rest = rw j (rest ∙ rw i refl)
    by_test false false false true q r i j rest = rw j refl
    by_test false false false false q r i j rest = rw j (rest ∙ rw i refl)

-- ---- what holds of each entry

pub entry_has : (P : ℕ × ℕ → Type 0) (t d : ℕ) (xs : List (ℕ × ℕ)) → AllByRecursion P xs → entry_at t xs ≡ Some d → P (t, d)
entry_has P t d [] all e = absurd cc
entry_has P t d (x ∷ xs) all e = by_test (eqb x.0 t) refl e (λ k. entry_has P t d xs all.1 k)
  where
    by_test : (b : Bool) → eqb x.0 t ≡ b → cond b (Some x.1) (entry_at t xs) ≡ Some d → (entry_at t xs ≡ Some d → P (t, d)) → P (t, d)
    by_test true is e rest =
        let value : x.1 ≡ d = cc in
        let same : x ≡ (t, d) = ap (λ (n : ℕ). (n, x.1)) (eqb-true x.0 t is) ∙ ap (λ (n : ℕ). (t, n)) value in
        subst P same all.0
    by_test false is e rest = rest e

pub some_has : (P : ℕ × ℕ → Type 0) (t : ℕ) (xs : List (ℕ × ℕ)) (o : Option ℕ) → AllByRecursion P xs → o ≡ entry_at t xs → IfSome o (λ d. P (t, d))
some_has P t xs None all e = tt
some_has P t xs (Some d) all e = entry_has P t d xs all (sym e)
