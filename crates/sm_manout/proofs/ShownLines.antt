-- The lines of a manifest, read one after another.
use Rattle.std.proofs.Common.{◌≡◌, ◌<◌, ◌^◌, ℕ, Bool, true, false, cond, eqb, List, [], ◌∷◌, ◌++◌, Option, Some, refl, sym, ap, ◌∙◌, append_assoc}
use Rattle.std.specs.Prelude.{decimal, codes}
use Rattle.std.proofs.lemmas.Bool.{eqb-true}
use Rattle.sm_model.specs.Digits.{wide_number_of}
use Rattle.sm_manin.specs.Values.{wide_in}
use Rattle.sm_manout.specs.ManifestText.{TimeRun, run_line, attribute, number_attribute}
use Rattle.sm_manout.specs.Shown.{ended_by, quoted, line_starts, starts_by, run_starts, count_in}
use Rattle.sm_manout.proofs.ShownPieces.{ended_piece, decimal_none}
use Rattle.sm_manout.proofs.ReadValues.{wide_again}

-- ---- a `c`

-- its count, where there is one, and its end
abbrev pub count_end : Bool → ℕ → List ℕ
count_end true r = codes "/>"
count_end false r = codes " r=\"" ++ (decimal r ++ (34 ∷ codes "/>"))

abbrev pub run_front : Bool → ℕ → ℕ → ℕ → List ℕ
run_front b s d r = codes "<c t=\"" ++ (decimal s ++ (34 ∷ codes " d=\"" ++ (decimal d ++ (34 ∷ count_end b r))))

run_by : (b : Bool) (s d r : ℕ) (x : List ℕ) → (codes "<c" ++ (number_attribute (codes "t") s
    ++ (number_attribute (codes "d") d ++ ((cond b [] (number_attribute (codes "r") r)) ++ codes "/>\n")))) ++ x ≡ run_front b s d r ++ (10 ∷ x)
unfolding attribute
run_by true s d r x = simp append_assoc
run_by false s d r x = simp append_assoc

pub run_text : (r : TimeRun) (x : List ℕ) → run_line r ++ x ≡ run_front (eqb r.count 1) r.start r.duration r.count ++ (10 ∷ x)
unfolding run_line
run_text r x = run_by (eqb r.count 1) r.start r.duration r.count x

count_pieces : Bool → ℕ → List (List ℕ)
count_pieces true r = []
count_pieces false r = codes " r=" ∷ decimal r ∷ []

end_pieces : (b : Bool) (r : ℕ) → r < 2 ^ 64 → ended_by 34 [] (count_end b r) ≡ count_pieces b r
unfolding count_pieces
end_pieces true r lt = refl
end_pieces false r lt = ap (λ (l : List (List ℕ)). codes " r=" ∷ l) (ended_piece 34 [] (decimal r) (codes "/>") (decimal_none 34 r refl lt))

run_pieces : (b : Bool) (s d r : ℕ) → s < 2 ^ 64 → d < 2 ^ 64 → r < 2 ^ 64
    → ended_by 34 [] (codes " t=\"" ++ (decimal s ++ (34 ∷ codes " d=\"" ++ (decimal d ++ (34 ∷ count_end b r))))) ≡ codes " t=" ∷ decimal s ∷ codes " d=" ∷ decimal d ∷ count_pieces b r
run_pieces b s d r ls ld lr =
    ap (λ (l : List (List ℕ)). codes " t=" ∷ l) (ended_piece 34 [] (decimal s) (codes " d=\"" ++ (decimal d ++ (34 ∷ count_end b r))) (decimal_none 34 s refl ls)
    ∙ ap (λ (l : List (List ℕ)). decimal s ∷ codes " d=" ∷ l) (ended_piece 34 [] (decimal d) (count_end b r) (decimal_none 34 d refl ld) ∙ ap (λ (l : List (List ℕ)). decimal d ∷ l) (end_pieces b r lr)))

-- the count of a run is its own
count_again : (b : Bool) (r : ℕ) → eqb r 1 ≡ b → r < 2 ^ 64 → (s d : List ℕ) → count_in (quoted (codes " r=") (codes " t=" ∷ s ∷ codes " d=" ∷ d ∷ count_pieces b r)) ≡ Some r
unfolding count_pieces
count_again true r is lt s d = ap (λ (n : ℕ). Some n) (sym (eqb-true r 1 is))
count_again false r is lt s d = wide_again r lt

-- a `c` stands for the times of its run
pub run_says : (s d r : ℕ) → s < 2 ^ 64 → d < 2 ^ 64 → r < 2 ^ 64 → line_starts (run_front (eqb r 1) s d r) ≡ run_starts r s d
unfolding line_starts
run_says s d r ls ld lr =
    let pieces = run_pieces (eqb r 1) s d r ls ld lr in
    let read : List (List ℕ) → List ℕ = λ l. starts_by (wide_in (quoted (codes " t=") l)) (wide_in (quoted (codes " d=") l)) (count_in (quoted (codes " r=") l)) in
    ap read pieces
    ∙ ap (λ (o : Option ℕ). starts_by o (wide_number_of (decimal d)) (count_in (quoted (codes " r=") (codes " t=" ∷ decimal s ∷ codes " d=" ∷ decimal d ∷ count_pieces (eqb r 1) r)))) (wide_again s ls)
    ∙ ap (λ (o : Option ℕ). starts_by (Some s) o (count_in (quoted (codes " r=") (codes " t=" ∷ decimal s ∷ codes " d=" ∷ decimal d ∷ count_pieces (eqb r 1) r)))) (wide_again d ld)
    ∙ ap (λ (o : Option ℕ). starts_by (Some s) (Some d) o) (count_again (eqb r 1) r refl lr (decimal s) (decimal d))
