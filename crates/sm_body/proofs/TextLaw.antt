-- The machine reads a trailer, and the body of a text.
use Rattle.std.proofs.Common.{◌≡◌, ◌≢◌, ℕ, ◌+◌, ◌<◌, ◌≤◌, Bool, true, false, List, [], ◌∷◌, ◌++◌, length, refl, ap, ◌∙◌, subst, arith, All, append_assoc, length-append, ◌⊎◌, ⊎_elim, inl, inr, eq-eqb}
use Rattle.std.proofs.lemmas.Bool.{cases_lt}
use Rattle.std.specs.Prelude.{◌==◌, IsTrue}
use Rattle.std.specs.List.{flat_map}
use Rattle.std.proofs.lemmas.Bool.Decides.{nat_tests}
use Rattle.std.proofs.lemmas.List.Elements.{All-head, All-tail}
use Rattle.sm_body.specs.declared.place.Place.{Place}
use Rattle.sm_body.specs.declared.place.Place.TheVariants.{Digits, TrailerStart, TrailerStartReturn, TrailerLine, TrailerLineReturn, Ended}
use Rattle.sm_body.specs.Places.{next_place, place_after, behind_line}
use Rattle.sm_body.specs.Chunked.{crlf, HasNoBreak, IsTrailerLine, print_trailer, Text, IsText, print_text, print_line, print_chunk, line_size}
use Rattle.sm_body.proofs.LineLaw.{place_after-append, line_run, chunks_run}

-- in a line of the trailer, behind a CR or not
abbrev in_line : Bool → ℕ → Place
in_line true k = TrailerLineReturn k
in_line false k = TrailerLine k

in_line_step : (returned : Bool) (k x : ℕ) → (IsTrue returned → x ≢ 10) → k < 8191 → next_place (in_line returned k) x ≡ in_line (x == 13) (k + 1)
in_line_step true k x fine room = let ne : x ≢ 10 = fine refl in line_return k x ne room
  where
    line_return : (k x : ℕ) → x ≢ 10 → k < 8191 → next_place (TrailerLineReturn k) x ≡ in_line (x == 13) (k + 1)
    line_return k x ne room = grind (arith, nat_tests)
in_line_step false k x fine room = grind (arith, nat_tests)

in_line_run : (returned : Bool) (k : ℕ) (xs : List ℕ) → HasNoBreak returned xs → k + length xs + 2 ≤ 8191
    → place_after (in_line returned k) (xs ++ crlf) ≡ TrailerStart (k + length xs + 2)
in_line_run true k [] fine room = grind (arith, nat_tests)
in_line_run false k [] fine room = grind (arith, nat_tests)
in_line_run returned k (x ∷ xs) fine room =
    ap (λ (p : Place). place_after p (xs ++ crlf)) (in_line_step returned k x fine.0 (omega arith))
    ∙ in_line_run (x == 13) (k + 1) xs fine.1 (omega arith) ∙ ap (λ n. TrailerStart n) (omega arith)

start_step : (k x : ℕ) → (x ≢ 13) → k < 8191 → next_place (TrailerStart k) x ≡ TrailerLine (k + 1)
start_step k x other room = grind (arith, nat_tests)

start_return : (k x : ℕ) → (x ≡ 13) → k < 8191 → next_place (TrailerStart k) x ≡ TrailerStartReturn (k + 1)
start_return k x is room = grind (arith, nat_tests)

returned_step : (k x : ℕ) → x ≢ 10 → k < 8191 → next_place (TrailerStartReturn k) x ≡ in_line (x == 13) (k + 1)
returned_step k x ne room = grind (arith, nat_tests)

returned_run : (k : ℕ) (xs : List ℕ) → HasNoBreak true xs → k + length xs + 2 ≤ 8191 → place_after (TrailerStartReturn k) (xs ++ crlf) ≡ TrailerStart (k + length xs + 2)
returned_run k [] fine room = grind (arith, nat_tests)
returned_run k (x ∷ xs) fine room =
    ap (λ (p : Place). place_after p (xs ++ crlf)) (returned_step k x (fine.0 refl) (omega arith))
    ∙ in_line_run (x == 13) (k + 1) xs fine.1 (omega arith) ∙ ap (λ n. TrailerStart n) (omega arith)

start_run : (k : ℕ) (xs : List ℕ) → IsTrailerLine xs → k + length xs + 2 ≤ 8191 → place_after (TrailerStart k) (xs ++ crlf) ≡ TrailerStart (k + length xs + 2)
start_run k [] is room = absurd (omega (arith, is.0))
start_run k (x ∷ xs) is room = ⊎_elim
    (λ (e : x ≡ 13).
    ap (λ (p : Place). place_after p (xs ++ crlf)) (start_return k x e (omega arith))
    ∙ returned_run (k + 1) xs (subst (λ (b : Bool). HasNoBreak b xs) (eq-eqb x 13 e) is.1.1) (omega arith) ∙ ap (λ n. TrailerStart n) (omega arith))
    (λ (ne : x ≢ 13).
    ap (λ (p : Place). place_after p (xs ++ crlf)) (start_step k x ne (omega arith))
    ∙ in_line_run false (k + 1) xs (subst (λ (b : Bool). HasNoBreak b xs) (ne_false x ne) is.1.1) (omega arith) ∙ ap (λ n. TrailerStart n) (omega arith))
    (same_or x)
  where
    ne_false : (x : ℕ) → x ≢ 13 → (x == 13) ≡ false
    ne_false x ne = grind (arith, nat_tests)

    same_or : (x : ℕ) → (x ≡ 13) ⊎ (x ≢ 13)
    same_or x = ⊎_elim (λ (lt : x < 13). inr (omega arith)) (λ (ge : 13 ≤ x). ⊎_elim (λ (l : 13 < x). inr (omega arith)) (λ (g : x ≤ 13). inl (omega arith)) (cases_lt 13 x)) (cases_lt x 13)

-- the machine reads a trailer
trailer_run : (k : ℕ) (lines : List (List ℕ)) → All IsTrailerLine lines → k + length (print_trailer lines) ≤ 8192 → place_after (TrailerStart k) (print_trailer lines) ≡ Ended
trailer_run k [] all room = let low : k + 2 ≤ 8192 = room in grind (arith, nat_tests)
trailer_run k (line ∷ lines) all room =
    let rest = print_trailer lines in
    let joins : print_trailer (line ∷ lines) ≡ (line ++ crlf) ++ rest = append_assoc (line ++ crlf) (flat_map (λ l. l ++ crlf) lines) crlf in
    let l1 = ap length joins in
    let l2 = length-append (line ++ crlf) rest in
    let l3 = length-append line crlf in
    let l4 = length-append (flat_map (λ l. l ++ crlf) lines) crlf in
    ap (place_after (TrailerStart k)) joins ∙ place_after-append (TrailerStart k) (line ++ crlf) rest
    ∙ ap (λ (p : Place). place_after p rest) (start_run k line (All-head IsTrailerLine line lines all) (omega arith))
    ∙ trailer_run (k + length line + 2) lines (All-tail IsTrailerLine line lines all) (omega arith)

-- the machine reads a whole text, and ends with it
pub text_run : (t : Text) → IsText t → place_after (Digits 0 0) (print_text t) ≡ Ended
text_run t is =
    let zero_size : behind_line (line_size t.last) ≡ TrailerStart 0 = ap behind_line is.zero in
    place_after-append (Digits 0 0) (flat_map print_chunk t.chunks) (print_line t.last ++ print_trailer t.trailer)
    ∙ ap (λ (p : Place). place_after p (print_line t.last ++ print_trailer t.trailer)) (chunks_run t.chunks is.chunks)
    ∙ place_after-append (Digits 0 0) (print_line t.last) (print_trailer t.trailer)
    ∙ ap (λ (p : Place). place_after p (print_trailer t.trailer)) (line_run t.last is.last ∙ zero_size)
    ∙ trailer_run 0 t.trailer is.trailer (omega (arith, is.trailer_short))
