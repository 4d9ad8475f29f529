-- Times that are apart.
use Rattle.std.proofs.Common.{◌≡◌, ◌≤◌, ◌<◌, ◌+◌, ℕ, true, false, ltb, List, [], ◌∷◌, Some, None, refl, ◌∙◌, arith}
use Rattle.std.proofs.lemmas.Bool.{le-ltb, lt-ltb, and_right, and_left, and_from}
use Rattle.std.specs.List.{AllByRecursion}
use Rattle.sm_log.specs.Times.{AreSorted, AreTimes, IsSpan, ends, do_overlap, overlapped_end}

pub is_over : (x : ℕ × ℕ) (t d : ℕ) → x.0 < t + d → t < ends x → do_overlap x (t, d) ≡ true
is_over x t d a b = and_from _ _ (lt-ltb x.0 (t + d) a) (lt-ltb t (ends x) b)

pub not_before : (x : ℕ × ℕ) (t d : ℕ) → ends x ≤ t → do_overlap x (t, d) ≡ false
not_before x t d a = and_right (ltb x.0 (t + d)) _ (le-ltb t (ends x) a)

pub not_behind : (x : ℕ × ℕ) (t d : ℕ) → t + d ≤ x.0 → do_overlap x (t, d) ≡ false
not_behind x t d a = and_left _ (ltb t (ends x)) (le-ltb x.0 (t + d) a)

pub passed : (x : ℕ × ℕ) (xs : List (ℕ × ℕ)) (t d : ℕ) → do_overlap x (t, d) ≡ false → overlapped_end (t, d) (x ∷ xs) ≡ overlapped_end (t, d) xs
passed x xs t d is = rw is refl

pub met : (x : ℕ × ℕ) (xs : List (ℕ × ℕ)) (t d : ℕ) → do_overlap x (t, d) ≡ true → overlapped_end (t, d) (x ∷ xs) ≡ Some (ends x)
met x xs t d is = rw is refl

-- ---- times

pub sorted_times : (xs : List (ℕ × ℕ)) → AreTimes xs → AreSorted xs
sorted_times [] times = tt
sorted_times (x ∷ xs) times = (each xs times.1, sorted_times xs times.2)
  where
    each : (ys : List (ℕ × ℕ)) → AllByRecursion (λ (y : ℕ × ℕ). ends x ≤ y.0) ys → AllByRecursion (λ (y : ℕ × ℕ). x.0 < y.0) ys
    each [] all = tt
    each (y ∷ ys) all = (omega (arith, all.0, times.0.0), each ys all.1)

pub none_behind : (t d : ℕ) (xs : List (ℕ × ℕ)) → AllByRecursion (λ (y : ℕ × ℕ). t + d ≤ y.0) xs → overlapped_end (t, d) xs ≡ None
none_behind t d [] all = refl
none_behind t d (x ∷ xs) all = passed x xs t d (not_behind x t d all.0) ∙ none_behind t d xs all.1

pub all_behind : (a b : ℕ) (xs : List (ℕ × ℕ)) → a ≤ b → AllByRecursion (λ (y : ℕ × ℕ). b ≤ y.0) xs → AllByRecursion (λ (y : ℕ × ℕ). a ≤ y.0) xs
all_behind a b [] h all = tt
all_behind a b (x ∷ xs) h all = (omega (arith, all.0, h), all_behind a b xs h all.1)

pub all_spans : (xs : List (ℕ × ℕ)) → AreTimes xs → AllByRecursion IsSpan xs
all_spans [] times = tt
all_spans (x ∷ xs) times = (times.0, all_spans xs times.2)
