-- The `c` lines of runs stand for the times that the runs were made of.
use Rattle.std.proofs.Common.{◌≡◌, add-one, ◌+◌, ◌<◌, ◌^◌, ℕ, zero, suc, Bool, true, false, cond, eqb, List, [], ◌∷◌, ◌++◌, length, refl, sym, ap, subst, ◌∙◌, append_assoc, arith, inl, inr}
use Rattle.std.specs.Prelude.{decimal, codes}
use Rattle.std.specs.List.{AllByRecursion, flat_map}
use Rattle.std.proofs.lemmas.Bool.{and_parts, eqb-true}
use Rattle.std.proofs.lemmas.List.{append-nil}
use Rattle.sm_model.specs.declared.address.Address.{Address}
use Rattle.sm_manout.specs.ManifestText.{TimeRun, run_line, run_lines, runs_from, follows}
use Rattle.sm_manout.specs.Shown.{Open, after_line, run_starts, at_bitrates}
use Rattle.sm_manout.proofs.Among.{Has}
use Rattle.sm_manout.proofs.ShownPieces.{has_no, Good, line_good, decimal_none, both_none}
use Rattle.sm_manout.proofs.ShownLines.{count_end, run_front, run_text, run_says}

run_end_none : (b : Bool) (r : ℕ) → r < 2 ^ 64 → has_no 10 (count_end b r) ≡ true
run_end_none true r lt = refl
run_end_none false r lt = both_none 10 (decimal r) (34 ∷ codes "/>") (decimal_none 10 r refl lt) refl

pub run_front_none : (b : Bool) (s d r : ℕ) → s < 2 ^ 64 → d < 2 ^ 64 → r < 2 ^ 64 → has_no 10 (run_front b s d r) ≡ true
run_front_none b s d r ls ld lr =
    both_none 10 (decimal s) (34 ∷ codes " d=\"" ++ (decimal d ++ (34 ∷ count_end b r))) (decimal_none 10 s refl ls) (both_none 10 (decimal d) (34 ∷ count_end b r) (decimal_none 10 d refl ld) (run_end_none b r lr))

pub after_run : (o : Open) (b : Bool) (s d r : ℕ) → after_line o (run_front b s d r) ≡ o
unfolding after_line
after_run o b s d r = refl

pub run_read : (P : Address → Type 0) (o : Open) (r : TimeRun) (x : List ℕ) → r.start < 2 ^ 64 → r.duration < 2 ^ 64 → r.count < 2 ^ 64
    → AllByRecursion P (flat_map (at_bitrates o) (run_starts r.count r.start r.duration)) → Good P o x
    → Good P o (run_line r ++ x)
run_read P o r x ls ld lr here go =
    let b = eqb r.count 1 in
    let front = run_front b r.start r.duration r.count in
    let T : List ℕ → Type 0 = λ l. Good P o l in
    let A : List ℕ → Type 0 = λ l. AllByRecursion P (flat_map (at_bitrates o) l) in
    let G : Open → Type 0 = λ o'. Good P o' x in
    subst T (sym (run_text r x)) (line_good P o front x (run_front_none b r.start r.duration r.count ls ld lr)
    (subst A (sym (run_says r.start r.duration r.count ls ld lr)) here) (subst G (sym (after_run o b r.start r.duration r.count)) go))

pub run_end : ℕ → ℕ → ℕ → ℕ
run_end zero s d = s
run_end (suc n) s d = run_end n (s + d) d

end_more : (n s d : ℕ) → run_end (suc n) s d ≡ run_end n s d + d
unfolding run_end
end_more zero s d = refl
end_more (suc n) s d = end_more n (s + d) d

starts_more : (Q : ℕ → Type 0) (n s d : ℕ) → AllByRecursion Q (run_starts n s d) → Q (run_end n s d) → AllByRecursion Q (run_starts (suc n) s d)
unfolding run_end
starts_more Q zero s d all last = (last, tt)
starts_more Q (suc n) s d all last = (all.0, starts_more Q n (s + d) d all.1 last)

-- a run that goes on keeps its starts, and has the next one
pub starts_stay : (t n s d : ℕ) → Has t (run_starts n s d) → Has t (run_starts (suc n) s d)
starts_stay t zero s d h = absurd h
starts_stay t (suc n) s d (inl e) = inl e
starts_stay t (suc n) s d (inr h) = inr (starts_stay t n (s + d) d h)

pub starts_next : (n s d : ℕ) → Has (run_end n s d) (run_starts (suc n) s d)
unfolding run_end
starts_next zero s d = inl refl
starts_next (suc n) s d = inr (starts_next n (s + d) d)

abbrev pub IsTime : (ℕ → Type 0) → ℕ × ℕ → Type 0
IsTime Q y = Q y.0 × (y.0 < 2 ^ 64) × (y.1 < 2 ^ 64)

-- the run that is open stands so far for these starts, and ends where its last time does
pub record IsRun (Q : ℕ → Type 0) (start count : ℕ) (last : ℕ × ℕ) : Type 0 where
  pub seen : AllByRecursion Q (run_starts count start last.1)
  pub ends : run_end count start last.1 ≡ last.0 + last.1
  pub start_fits : start < 2 ^ 64
  pub last_fits : last.1 < 2 ^ 64

pub run_more : (Q : ℕ → Type 0) (start count : ℕ) (last y : ℕ × ℕ) → IsRun Q start count last → IsTime Q y → y.1 ≡ last.1 → y.0 ≡ last.0 + last.1 → IsRun Q start (suc count) y
run_more Q start count last y run time same next =
    let D : ℕ → Type 0 = λ d. AllByRecursion Q (run_starts (suc count) start d) in
    let here : Q (run_end count start last.1) = subst Q (next ∙ sym run.ends) time.0 in
    record {
      seen = subst D (sym same) (starts_more Q count start last.1 run.seen here);
      ends = ap (run_end (suc count) start) same ∙ end_more count start last.1 ∙ ap (λ (n : ℕ). n + last.1) (run.ends ∙ sym next) ∙ ap (λ (n : ℕ). y.0 + n) (sym same);
      start_fits = run.start_fits;
      last_fits = time.2;
    }

pub run_first : (Q : ℕ → Type 0) (y : ℕ × ℕ) → IsTime Q y → IsRun Q y.0 1 y
unfolding run_end
run_first Q y time = record { seen = (time.0, tt); ends = refl; start_fits = time.1; last_fits = time.2 }

pub runs_read : (P : Address → Type 0) (Q : ℕ → Type 0) (o : Open) (x : List ℕ) (start count : ℕ) (last : ℕ × ℕ) (ys : List (ℕ × ℕ))
    → ((ss : List ℕ) → AllByRecursion Q ss → AllByRecursion P (flat_map (at_bitrates o) ss))
    → IsRun Q start count last → count + length ys < 2 ^ 64 → AllByRecursion (IsTime Q) ys → Good P o x → Good P o (run_lines (runs_from start count last ys) ++ x)
runs_read P Q o x start count last [] each run fits times go =
    let T : List ℕ → Type 0 = λ l. Good P o (l ++ x) in
    let r : TimeRun = record { start = start; duration = last.1; count = count } in
    subst T (sym (append-nil (run_line r))) (run_read P o r x run.start_fits run.last_fits (omega (arith, fits)) (each (run_starts count start last.1) run.seen) go)
runs_read P Q o x start count last (y ∷ ys) each run fits times go =
    by_test (follows last y) refl (λ more. runs_read P Q o x start (suc count) y ys each more (omega (arith, fits)) times.1 go) (runs_read P Q o x y.0 1 y ys each (run_first Q y times.0) (omega (arith, fits)) times.1 go)
  where
    r : TimeRun
    r = record { start = start; duration = last.1; count = count }

    by_test : (b : Bool) → follows last y ≡ b → (IsRun Q start (suc count) y → Good P o (run_lines (runs_from start (suc count) y ys) ++ x)) → Good P o (run_lines (runs_from y.0 1 y ys) ++ x)
        → Good P o (run_lines (cond b (runs_from start (count + 1) y ys) (r ∷ runs_from y.0 1 y ys)) ++ x)
    by_test true is more other =
        let parts = and_parts (eqb y.1 last.1) (eqb y.0 (last.0 + last.1)) is in
        rw add-one (more (run_more Q start count last y run times.0 (eqb-true y.1 last.1 parts.0) (eqb-true y.0 (last.0 + last.1) parts.1)))
    by_test false is more other =
        let T : List ℕ → Type 0 = λ l. Good P o l in
        subst T (sym (append_assoc (run_line r) (run_lines (runs_from y.0 1 y ys)) x))
        (run_read P o r (run_lines (runs_from y.0 1 y ys) ++ x) run.start_fits run.last_fits (omega (arith, fits)) (each (run_starts count start last.1) run.seen) other)
