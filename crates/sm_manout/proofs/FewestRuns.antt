-- No list of runs that stands for the same times is shorter.
use Rattle.std.proofs.Common.{◌≡◌, ◌+◌, ◌≤◌, ℕ, zero, suc, Bool, true, false, cond, List, [], ◌∷◌, ◌++◌, length, refl, subst, arith}
use Rattle.std.proofs.lemmas.Bool.{eq-eqb}
use Rattle.sm_manin.specs.RunTimes.{expand}
use Rattle.sm_manout.specs.ManifestText.{TimeRun, follows, runs_from, runs, run_times}

-- how many runs there are doesn't hang on where the first one began
as_many : (a b m n : ℕ) (last : ℕ × ℕ) (xs : List (ℕ × ℕ)) → length (runs_from a m last xs) ≡ length (runs_from b n last xs)
as_many a b m n last [] = refl
as_many a b m n last (x ∷ xs) = by_test (follows last x) (as_many a b (m + 1) (n + 1) x xs)
  where
    by_test : (f : Bool) → length (runs_from a (m + 1) x xs) ≡ length (runs_from b (n + 1) x xs)
        → length (cond f (runs_from a (m + 1) x xs) ((record { start = a; duration = last.1; count = m }) ∷ runs_from x.0 1 x xs))
        ≡ length (cond f (runs_from b (n + 1) x xs) ((record { start = b; duration = last.1; count = n }) ∷ runs_from x.0 1 x xs))
    by_test true more = more
    by_test false more = refl

-- times behind a run that is open make at most one run more than they make alone
one_more : (start count : ℕ) (last : ℕ × ℕ) (ys : List (ℕ × ℕ)) → length (runs_from start count last ys) ≤ length (runs ys) + 1
one_more start count last [] = omega arith
one_more start count last (y ∷ ys) = by_test (follows last y) (as_many start y.0 (count + 1) 1 y ys)
  where
    by_test : (f : Bool) → length (runs_from start (count + 1) y ys) ≡ length (runs_from y.0 1 y ys)
        → length (cond f (runs_from start (count + 1) y ys) ((record { start = start; duration = last.1; count = count }) ∷ runs_from y.0 1 y ys)) ≤ length (runs_from y.0 1 y ys) + 1
    by_test true same = omega (arith, same)
    by_test false same = omega arith

next_follows : (last : ℕ × ℕ) → follows last (last.0 + last.1, last.1) ≡ true
next_follows last = rw (eq-eqb last.1 last.1 refl, eq-eqb (last.0 + last.1) (last.0 + last.1) refl) refl

-- those of one run stay in the run that is open
in_one_run : (n start count : ℕ) (last : ℕ × ℕ) (ys : List (ℕ × ℕ)) → length (runs_from start count last (expand (last.0 + last.1) last.1 n ++ ys)) ≤ length (runs ys) + 1
in_one_run zero start count last ys = one_more start count last ys
in_one_run (suc n) start count last ys = rw (next_follows last) (in_one_run n start (count + 1) (last.0 + last.1, last.1) ys)

one_run : (n start duration : ℕ) (ys : List (ℕ × ℕ)) → length (runs (expand start duration n ++ ys)) ≤ length (runs ys) + 1
one_run zero start duration ys = omega arith
one_run (suc n) start duration ys = in_one_run n start 1 (start, duration) ys

as_few : (rs : List TimeRun) → length (runs (run_times rs)) ≤ length rs
as_few [] = omega arith
as_few (r ∷ rs) = omega (arith, one_run r.count r.start r.duration (run_times rs), as_few rs)

pub runs_as_few : (ts : List (ℕ × ℕ)) (rs : List TimeRun) → run_times rs ≡ ts → length (runs ts) ≤ length rs
runs_as_few ts rs same = subst (λ (xs : List (ℕ × ℕ)). length (runs xs) ≤ length rs) same (as_few rs)
