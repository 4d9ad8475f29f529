-- The lines of runs are read as the times that the runs were made of.
use Rattle.std.proofs.Common.{◌≡◌, ◌+◌, ◌*◌, ◌<◌, ◌≤◌, ◌^◌, ℕ, zero, suc, Bool, true, false, cond, eqb, leb, ltb, List, [], ◌∷◌, ◌++◌, length, Option, Some, None, Ok, refl, sym, ap, ◌∙◌, append_assoc, arith, add-one}
use Rattle.std.specs.Prelude.{decimal}
use Rattle.std.specs.List.{AllByRecursion}
use Rattle.std.proofs.lemmas.Bool.{and_parts, eqb-true, lt-ltb, le-leb}
use Rattle.sm_model.specs.Digits.{number_of}
use Rattle.sm_log.specs.Times.{AreTimes, IsSpan, ends}
use Rattle.sm_smil.proofs.WrittenValues.{decimal_again}
use Rattle.sm_manin.specs.declared.raw.RawTime.{RawTime}
use Rattle.sm_manin.specs.RunTimes.{count_in, fits, time_in, times_in, expand, with_times, or_fault}
use Rattle.sm_manout.specs.ManifestText.{TimeRun, follows, runs_from, runs, run_times}
use Rattle.sm_manout.proofs.ReadValues.{wide_again}

-- the count is left out where it is 1
abbrev pub count_text : ℕ → Option (List ℕ)
count_text count = cond (eqb count 1) None (Some (decimal count))

-- an element of that run
pub record IsRunTime (r : TimeRun) (c : RawTime) : Type 0 where
  pub start : c.t ≡ Some (decimal r.start)
  pub duration : c.d ≡ Some (decimal r.duration)
  pub count : c.r ≡ count_text r.count

abbrev pub AreRunTimes : List TimeRun → List RawTime → Type 0
AreRunTimes [] [] = Unit {0}
AreRunTimes (r ∷ rs) (c ∷ cs) = IsRunTime r c × AreRunTimes rs cs
AreRunTimes [] (c ∷ cs) = ⊥
AreRunTimes (r ∷ rs) [] = ⊥

pub run_times_push : (rs : List TimeRun) (cs : List RawTime) (r : TimeRun) (c : RawTime) → AreRunTimes rs cs → IsRunTime r c → AreRunTimes (rs ++ r ∷ []) (cs ++ c ∷ [])
run_times_push [] [] r c are is = (is, tt)
run_times_push (q ∷ rs) (b ∷ cs) r c are is = (are.0, run_times_push rs cs r c are.1 is)
run_times_push [] (b ∷ cs) r c are is = absurd are
run_times_push (q ∷ rs) [] r c are is = absurd are

-- a run that starts at or behind an end, fits, and brings no more than so many times
pub record RunFits (end count : ℕ) (r : TimeRun) : Type 0 where
  pub lasts : 0 < r.duration
  pub some : 0 < r.count
  pub behind : end ≤ r.start
  pub ends : r.start + r.duration * r.count < 2 ^ 63
  pub few : count + r.count ≤ 262144

abbrev pub RunsFit : ℕ → ℕ → List TimeRun → Type 0
RunsFit end count [] = Unit {0}
RunsFit end count (r ∷ rs) = RunFits end count r × RunsFit (r.start + r.duration * r.count) (count + r.count) rs

-- ---- one element

count_again : (n : ℕ) (b : Bool) → eqb n 1 ≡ b → 0 < n → n ≤ 262144 → count_in true (cond b None (Some (decimal n))) ≡ Some n
count_again n true is some few = let one : 1 ≡ n = sym (eqb-true n 1 is) in ap Some one
count_again n false is some few =
    let again : number_of (decimal n) ≡ Some n = decimal_again n (omega (arith, few)) in
    let low : leb 1 n ≡ true = le-leb 1 n some in
    let high : leb n 262144 ≡ true = le-leb n 262144 few in
    rw (again, low, high, is) refl

run_fits : (end count : ℕ) (r : TimeRun) → RunFits end count r → fits end count r.start r.duration r.count ≡ true
run_fits end count r f =
    let a : ltb 0 r.duration ≡ true = lt-ltb 0 r.duration f.lasts in
    let b : leb end r.start ≡ true = le-leb end r.start f.behind in
    let c : ltb (r.start + r.duration * r.count) 9223372036854775808 ≡ true = lt-ltb (r.start + r.duration * r.count) 9223372036854775808 (omega (arith, f.ends)) in
    let d : leb (count + r.count) 262144 ≡ true = le-leb (count + r.count) 262144 f.few in
    rw (a, b, c, d) refl

more_than : (d n : ℕ) → 0 < n → d ≤ d * n
more_than d zero some = absurd (omega arith)
more_than d (suc n) some = omega arith

run_time : (end count : ℕ) (r : TimeRun) (c : RawTime) (cs : List RawTime) → IsRunTime r c → RunFits end count r → time_in false end count c cs ≡ Some (r.start, r.duration, r.count)
run_time end count r c cs is f =
    let lasts = more_than r.duration r.count f.some in
    let start = wide_again r.start (omega (arith, f.ends)) in
    let duration = wide_again r.duration (omega (arith, f.ends, lasts)) in
    let number = count_again r.count (eqb r.count 1) refl f.some (omega (arith, f.few)) in
    let fit = run_fits end count r f in
    rw (is.start, is.duration, is.count, start, duration, number, fit) refl

pub times_again : (end count : ℕ) (rs : List TimeRun) (cs : List RawTime) → AreRunTimes rs cs → RunsFit end count rs → times_in false end count cs ≡ Ok (run_times rs)
times_again end count [] [] are fit = refl
times_again end count (r ∷ rs) (c ∷ cs) are fit =
    ap (λ (t : Option (ℕ × ℕ × ℕ)). or_fault c.at t (λ x. with_times (expand x.0 x.1 x.2) (times_in false (x.0 + x.1 * x.2) (count + x.2) cs))) (run_time end count r c cs are.0 fit.0)
    ∙ ap (with_times (expand r.start r.duration r.count)) (times_again (r.start + r.duration * r.count) (count + r.count) rs cs are.1 fit.1)
times_again end count [] (c ∷ cs) are fit = absurd are
times_again end count (r ∷ rs) [] are fit = absurd are

-- ---- runs of times

expand_more : (start d n : ℕ) → expand start d (suc n) ≡ expand start d n ++ (start + d * n, d) ∷ []
expand_more start d zero = ap (λ (s : ℕ). (s, d) ∷ []) (omega arith)
expand_more start d (suc n) =
    ap (λ (l : List (ℕ × ℕ)). (start, d) ∷ l) (expand_more (start + d) d n ∙ ap (λ (s : ℕ). expand (start + d) d n ++ (s, d) ∷ []) (omega arith))

-- the times behind the last one of a run that is open
pub runs_again : (start count : ℕ) (last : ℕ × ℕ) (xs : List (ℕ × ℕ)) → ends last ≡ start + last.1 * count → run_times (runs_from start count last xs) ≡ expand start last.1 count ++ xs
runs_again start count last [] at = refl
runs_again start count last (x ∷ xs) at = by_test (follows last x) refl (λ k. runs_again start (count + 1) x xs k) (runs_again x.0 1 x xs (omega arith))
  where
    r : TimeRun
    r = record { start = start; duration = last.1; count = count }

    by_test : (b : Bool) → follows last x ≡ b → (ends x ≡ start + x.1 * (count + 1) → run_times (runs_from start (count + 1) x xs) ≡ expand start x.1 (count + 1) ++ xs)
        → run_times (runs_from x.0 1 x xs) ≡ expand x.0 x.1 1 ++ xs
        → run_times (cond b (runs_from start (count + 1) x xs) (r ∷ runs_from x.0 1 x xs)) ≡ expand start last.1 count ++ (x ∷ xs)
    by_test true is more other =
        let parts = and_parts (eqb x.1 last.1) (eqb x.0 (last.0 + last.1)) is in
        let same : x.1 ≡ last.1 = eqb-true x.1 last.1 parts.0 in
        let next : x.0 ≡ start + last.1 * count = eqb-true x.0 (last.0 + last.1) parts.1 ∙ at in
        let far : last.1 * (count + 1) ≡ x.1 * (count + 1) = ap (λ (d : ℕ). d * (count + 1)) (sym same) in
        let pair : (start + last.1 * count, last.1) ≡ x = ap (λ (n : ℕ). (n, last.1)) (sym next) ∙ ap (λ (n : ℕ). (x.0, n)) (sym same) in
        more (omega (arith, next, far, same))
        ∙ ap (λ (d : ℕ). expand start d (count + 1) ++ xs) same
        ∙ ap (λ (n : ℕ). expand start last.1 n ++ xs) (add-one count)
        ∙ ap (λ (l : List (ℕ × ℕ)). l ++ xs) (expand_more start last.1 count)
        ∙ append_assoc (expand start last.1 count) ((start + last.1 * count, last.1) ∷ []) xs
        ∙ ap (λ (y : ℕ × ℕ). expand start last.1 count ++ (y ∷ xs)) pair
    by_test false is more other = ap (λ (l : List (ℕ × ℕ)). expand start last.1 count ++ l) other

pub all_runs_again : (ts : List (ℕ × ℕ)) → run_times (runs ts) ≡ ts
all_runs_again [] = refl
all_runs_again (x ∷ xs) = runs_again x.0 1 x xs (omega arith)

-- a run that is open fits, and so do those behind it
pub runs_fit : (end before start count : ℕ) (last : ℕ × ℕ) (xs : List (ℕ × ℕ)) → ends last ≡ start + last.1 * count → 0 < count → IsSpan last → end ≤ start → before + (count + length xs) ≤ 262144
    → AllByRecursion (λ (y : ℕ × ℕ). ends last ≤ y.0) xs → AreTimes xs → RunsFit end before (runs_from start count last xs)
runs_fit end before start count last [] at some span behind few all times =
    (record { lasts = span.0; some = some; behind = behind; ends = omega (arith, at, span.1); few = omega (arith, few) }, tt)
runs_fit end before start count last (x ∷ xs) at some span behind few all times =
    by_test (follows last x) refl
    (λ k. runs_fit end before start (count + 1) x xs k (omega arith) times.0 behind (omega (arith, few)) times.1 times.2)
    (runs_fit (start + last.1 * count) (before + count) x.0 1 x xs (omega arith) (omega arith) times.0 (omega (arith, at, all.0)) (omega (arith, few)) times.1 times.2)
  where
    r : TimeRun
    r = record { start = start; duration = last.1; count = count }

    by_test : (b : Bool) → follows last x ≡ b → (ends x ≡ start + x.1 * (count + 1) → RunsFit end before (runs_from start (count + 1) x xs)) → RunsFit (start + last.1 * count) (before + count) (runs_from x.0 1 x xs)
        → RunsFit end before (cond b (runs_from start (count + 1) x xs) (r ∷ runs_from x.0 1 x xs))
    by_test true is more other =
        let parts = and_parts (eqb x.1 last.1) (eqb x.0 (last.0 + last.1)) is in
        let same : x.1 ≡ last.1 = eqb-true x.1 last.1 parts.0 in
        let next : x.0 ≡ start + last.1 * count = eqb-true x.0 (last.0 + last.1) parts.1 ∙ at in
        let far : last.1 * (count + 1) ≡ x.1 * (count + 1) = ap (λ (d : ℕ). d * (count + 1)) (sym same) in
        more (omega (arith, next, far, same))
    by_test false is more other =
        (record { lasts = span.0; some = some; behind = behind; ends = omega (arith, at, span.1); few = omega (arith, few) }, other)

pub all_runs_fit : (ts : List (ℕ × ℕ)) → AreTimes ts → length ts ≤ 262144 → RunsFit 0 0 (runs ts)
all_runs_fit [] times few = tt
all_runs_fit (x ∷ xs) times few =
    runs_fit 0 0 x.0 1 x xs (omega arith) (omega arith) times.0 (omega arith) (omega (arith, few)) times.1 times.2
