-- Cells of which those before a start are free.
use Rattle.std.proofs.Common.{◌≡◌, ◌≤◌, ◌<◌, ◌+◌, ℕ, List, ◌∷◌, ◌++◌, length, take, drop, set, refl, sym, ap, subst, ◌∙◌, arith}
use Rattle.std.proofs.lemmas.List.{drop-append-le, drop-take, drop-drop, drop-set, drop-set-add, set-append_right, length-drop, length-take-le, length-append}
use Rattle.std.proofs.Math.Seq.{drop-append_seam}
use Rattle.std.specs.List.{insert}
use lib.Seq.{paste}

-- one more behind the start
pub inserted_behind : {X : Type 0} (xs : List X) (s p : ℕ) (x : X) → s + p ≤ length xs → drop s (insert xs (s + p) x) ≡ insert (drop s xs) p x
inserted_behind xs s p x h =
    let long : s ≤ length (take (s + p) xs) = omega (arith, length-take-le (s + p) xs h) in
    drop-append-le s (take (s + p) xs) (x ∷ drop (s + p) xs) long ∙ rw (drop-take s p xs, ← drop-drop p s xs) refl

-- what stood before the place moved down by one, and one more put there
pub inserted_before : {X : Type 0} (xs : List X) (s q p n : ℕ) (x : X) → q + 1 ≡ s → s + p ≤ length xs → n ≡ p → drop q (set (paste xs q (drop s xs) n) (q + p) x) ≡ insert (drop s xs) p x
inserted_before xs s q p n x e h same =
    let front : length (take q xs) ≡ q = length-take-le q xs (omega (arith, e, h)) in
    let moved : length (take p (drop s xs)) ≡ p = length-take-le p (drop s xs) (omega (arith, h, length-drop s xs)) in
    let rest = drop (q + p) xs in
    let seam : drop q (take q xs ++ take p (drop s xs)) ≡ take p (drop s xs) = subst (λ (k : ℕ). drop k (take q xs ++ take p (drop s xs)) ≡ take p (drop s xs)) front (drop-append_seam (take q xs) (take p (drop s xs))) in
    let cut : drop q (paste xs q (drop s xs) p) ≡ take p (drop s xs) ++ rest =
    drop-append-le q (take q xs ++ take p (drop s xs)) rest (omega (arith, length-append (take q xs) (take p (drop s xs)), front)) ∙ ap (λ l. l ++ rest) seam in
    let some : 0 < length rest = omega (arith, length-drop (q + p) xs, e, h) in
    let behind : drop 1 rest ≡ drop p (drop s xs) = drop-drop 1 (q + p) xs ∙ ap (λ (k : ℕ). drop k xs) (omega (arith, e)) ∙ sym (drop-drop p s xs) in
    ap (λ (k : ℕ). drop q (set (paste xs q (drop s xs) k) (q + p) x)) same
    ∙ drop-set-add q (paste xs q (drop s xs) p) p x
    ∙ ap (λ l. set l p x) cut
    ∙ set-append_right (take p (drop s xs)) rest p p x moved (omega arith)
    ∙ ap (λ (k : ℕ). take p (drop s xs) ++ set rest k x) (omega arith)
    ∙ ap (λ l. take p (drop s xs) ++ l) (drop-set rest 0 x some ∙ ap (λ l. x ∷ l) behind)
