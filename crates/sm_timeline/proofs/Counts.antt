-- Counts beside times.
use Rattle.std.proofs.Common.{◌≡◌, ◌<◌, ◌+◌, ℕ, suc, Bool, true, false, cond, eqb, ltb, List, [], ◌∷◌, length, get_or, set, Some, None, refl, ap, ◌∙◌, arith, add-one}
use Rattle.std.proofs.lemmas.Bool.{eqb-true, eqb-false, ltb-true, ltb-false}
use Rattle.std.specs.List.{insert}
use Rattle.sm_log.specs.Times.{entry_at, with_entry, AreSorted}
use Rattle.sm_timeline.specs.Places.{place_in}
use Rattle.sm_timeline.specs.Lines.{more, count_at, counted}
use Rattle.sm_log.proofs.Entries.{no_later, all_later}

pub as_many_counted : (t v : ℕ) (xs : List (ℕ × ℕ)) (cs : List ℕ) → length cs ≡ length xs → length (counted t xs cs) ≡ length (with_entry t v xs)
as_many_counted t v [] [] e = refl
as_many_counted t v [] (c ∷ cs) e = absurd (omega arith)
as_many_counted t v (x ∷ xs) [] e = absurd (omega arith)
as_many_counted t v (x ∷ xs) (c ∷ cs) e = by_test (ltb t x.0) (eqb x.0 t) (as_many_counted t v xs cs (omega arith))
  where
    by_test : (b d : Bool) → length (counted t xs cs) ≡ length (with_entry t v xs)
        → length (cond b (1 ∷ c ∷ cs) (cond d (more c ∷ cs) (c ∷ counted t xs cs)))
        ≡ length (cond b ((t, v) ∷ x ∷ xs) (cond d (x ∷ xs) (x ∷ with_entry t v xs)))
    by_test true d rest = ap suc e
    by_test false true rest = e
    by_test false false rest = ap suc rest

-- the count at the place of a time that is there
pub count_there : (t w : ℕ) (xs : List (ℕ × ℕ)) (cs : List ℕ) → AreSorted xs → length cs ≡ length xs → entry_at t xs ≡ Some w → count_at t xs cs ≡ get_or cs (place_in t xs) 0
count_there t w [] cs sorted e is = absurd cc
count_there t w (x ∷ xs) [] sorted e is = absurd (omega arith)
count_there t w (x ∷ xs) (c ∷ cs) sorted e is = by_test (ltb x.0 t) (eqb x.0 t) refl refl is (λ k. count_there t w xs cs sorted.1 (omega arith) k)
  where
    by_test : (a b : Bool) → ltb x.0 t ≡ a → eqb x.0 t ≡ b → cond b (Some x.1) (entry_at t xs) ≡ Some w → (entry_at t xs ≡ Some w → count_at t xs cs ≡ get_or cs (place_in t xs) 0)
        → cond b c (count_at t xs cs) ≡ get_or (c ∷ cs) (cond a (place_in t xs + 1) 0) 0
    by_test true true r u is rest = absurd (omega (arith, ltb-true x.0 t r, eqb-true x.0 t u))
    by_test true false r u is rest = rw add-one (rest is)
    by_test false true r u is rest = refl
    by_test false false r u is rest =
        let none = no_later t xs (all_later t x.0 xs (ltb-false x.0 t r) sorted.0) in
        absurd cc

pub count_absent : (t : ℕ) (xs : List (ℕ × ℕ)) (cs : List ℕ) → entry_at t xs ≡ None → count_at t xs cs ≡ 0
count_absent t [] cs is = refl
count_absent t (x ∷ xs) [] is = refl
count_absent t (x ∷ xs) (c ∷ cs) is = by_test (eqb x.0 t) is (λ k. count_absent t xs cs k)
  where
    by_test : (b : Bool) → cond b (Some x.1) (entry_at t xs) ≡ None → (entry_at t xs ≡ None → count_at t xs cs ≡ 0) → cond b c (count_at t xs cs) ≡ 0
    by_test true is rest = absurd cc
    by_test false is rest = rest is

-- one more at a time that is there
pub counted_there : (t w : ℕ) (xs : List (ℕ × ℕ)) (cs : List ℕ) → AreSorted xs → length cs ≡ length xs → entry_at t xs ≡ Some w → counted t xs cs ≡ set cs (place_in t xs) (more (get_or cs (place_in t xs) 0))
counted_there t w [] cs sorted e is = absurd cc
counted_there t w (x ∷ xs) [] sorted e is = absurd (omega arith)
counted_there t w (x ∷ xs) (c ∷ cs) sorted e is = by_test (ltb x.0 t) (ltb t x.0) (eqb x.0 t) refl refl refl is (λ k. counted_there t w xs cs sorted.1 (omega arith) k)
  where
    by_test : (a b d : Bool) → ltb x.0 t ≡ a → ltb t x.0 ≡ b → eqb x.0 t ≡ d → cond d (Some x.1) (entry_at t xs) ≡ Some w
        → (entry_at t xs ≡ Some w → counted t xs cs ≡ set cs (place_in t xs) (more (get_or cs (place_in t xs) 0)))
        → cond b (1 ∷ c ∷ cs) (cond d (more c ∷ cs) (c ∷ counted t xs cs)) ≡ set (c ∷ cs) (cond a (place_in t xs + 1) 0) (more (get_or (c ∷ cs) (cond a (place_in t xs + 1) 0) 0))
    by_test true b true r s u is rest = absurd (omega (arith, ltb-true x.0 t r, eqb-true x.0 t u))
    by_test true true false r s u is rest = absurd (omega (arith, ltb-true x.0 t r, ltb-true t x.0 s))
    by_test true false false r s u is rest = rw add-one (ap (λ l. c ∷ l) (rest is))
    by_test false true true r s u is rest = absurd (omega (arith, ltb-true t x.0 s, eqb-true x.0 t u))
    by_test false false true r s u is rest = refl
    by_test false b false r s u is rest =
        let none = no_later t xs (all_later t x.0 xs (ltb-false x.0 t r) sorted.0) in
        absurd cc

-- the first at a new time
pub counted_absent : (t : ℕ) (xs : List (ℕ × ℕ)) (cs : List ℕ) → length cs ≡ length xs → entry_at t xs ≡ None → counted t xs cs ≡ insert cs (place_in t xs) 1
counted_absent t [] [] e is = refl
counted_absent t [] (c ∷ cs) e is = absurd (omega arith)
counted_absent t (x ∷ xs) [] e is = absurd (omega arith)
counted_absent t (x ∷ xs) (c ∷ cs) e is = by_test (ltb x.0 t) (ltb t x.0) (eqb x.0 t) refl refl refl is (λ k. counted_absent t xs cs (omega arith) k)
  where
    by_test : (a b d : Bool) → ltb x.0 t ≡ a → ltb t x.0 ≡ b → eqb x.0 t ≡ d → cond d (Some x.1) (entry_at t xs) ≡ None → (entry_at t xs ≡ None → counted t xs cs ≡ insert cs (place_in t xs) 1)
        → cond b (1 ∷ c ∷ cs) (cond d (more c ∷ cs) (c ∷ counted t xs cs)) ≡ insert (c ∷ cs) (cond a (place_in t xs + 1) 0) 1
    by_test a b true r s u is rest = absurd cc
    by_test true true false r s u is rest = absurd (omega (arith, ltb-true x.0 t r, ltb-true t x.0 s))
    by_test true false false r s u is rest = rw add-one (ap (λ l. c ∷ l) (rest is))
    by_test false true false r s u is rest = refl
    by_test false false false r s u is rest = absurd (omega (arith, ltb-false x.0 t r, ltb-false t x.0 s, eqb-false x.0 t u))

-- what is counted after one more
pub count_with : (u t v : ℕ) (xs : List (ℕ × ℕ)) (cs : List ℕ) → AreSorted xs → length cs ≡ length xs → count_at u (with_entry t v xs) (counted t xs cs) ≡ cond (eqb t u) (more (count_at t xs cs)) (count_at u xs cs)
count_with u t v [] [] sorted e = refl
count_with u t v [] (c ∷ cs) sorted e = absurd (omega arith)
count_with u t v (x ∷ xs) [] sorted e = absurd (omega arith)
count_with u t v (x ∷ xs) (c ∷ cs) sorted e = by_test (ltb t x.0) (eqb x.0 t) (eqb t u) (eqb x.0 u) refl refl refl refl (count_with u t v xs cs sorted.1 (omega arith))
  where
    by_test : (a b d f : Bool) → ltb t x.0 ≡ a → eqb x.0 t ≡ b → eqb t u ≡ d → eqb x.0 u ≡ f
        → count_at u (with_entry t v xs) (counted t xs cs) ≡ cond (eqb t u) (more (count_at t xs cs)) (count_at u xs cs)
        → count_at u (cond a ((t, v) ∷ x ∷ xs) (cond b (x ∷ xs) (x ∷ with_entry t v xs))) (cond a (1 ∷ c ∷ cs) (cond b (more c ∷ cs) (c ∷ counted t xs cs)))
        ≡ cond d (more (cond b c (count_at t xs cs))) (cond f c (count_at u xs cs))
    by_test true true d f q r i j rest = absurd (omega (arith, ltb-true t x.0 q, eqb-true x.0 t r))
    by_test true false true f q r i j rest =
        let less : t < x.0 = ltb-true t x.0 q in
        let none = count_absent t xs cs (no_later t xs (all_later t x.0 xs (omega (arith, less)) sorted.0)) in
        rw (i, none) refl
    by_test true false false f q r i j rest = rw (i, j) refl
    by_test false true true true q r i j rest = rw j refl
    by_test false true true false q r i j rest = absurd (eqb-false x.0 u j (omega (arith, eqb-true x.0 t r, eqb-true t u i)))
    by_test false true false true q r i j rest = absurd (eqb-false t u i (omega (arith, eqb-true x.0 t r, eqb-true x.0 u j)))
    by_test false true false false q r i j rest = rw j refl
    by_test false false true true q r i j rest = absurd (eqb-false x.0 t r (omega (arith, eqb-true t u i, eqb-true x.0 u j)))
    by_test false false true false q r i j rest = rw j (rest ∙ rw i refl)
    by_test false false false true q r i j rest = rw j refl
    by_test false false false false q r i j rest = rw j (rest ∙ rw i refl)

pub count_after : (u t v : ℕ) (xs ys : List (ℕ × ℕ)) (cs ds : List ℕ) → AreSorted xs → length cs ≡ length xs → ys ≡ with_entry t v xs → ds ≡ counted t xs cs
    → count_at u ys ds ≡ cond (eqb t u) (more (count_at t xs cs)) (count_at u xs cs)
count_after u t v xs ys cs ds sorted e times counts = rw (times, counts) (count_with u t v xs cs sorted e)
