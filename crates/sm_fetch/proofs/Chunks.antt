-- A body in pieces.
use Rattle.std.proofs.Common.{◌≡◌, ◌<◌, ◌≤◌, ℕ, zero, suc, ◌+◌, ◌-◌, List, [], ◌∷◌, ◌++◌, length, take, drop, refl, ap, ◌∙◌, sym, arith, append_assoc, length-drop}
use Rattle.std.specs.Prelude.{min}
use Rattle.std.specs.List.{flat_map}
use Rattle.std.proofs.lemmas.List.{append-nil}
use Rattle.std.proofs.lemmas.Grind.{common_steps}
use Rattle.sm_fetch.specs.Requests.{chunk, pieces, pieces_in}

-- more room than bytes makes no difference
roomy : (n m : ℕ) (body : List ℕ) → length body ≤ n → length body ≤ m → pieces_in n body ≡ pieces_in m body
roomy zero zero body few fewer = refl
roomy zero (suc m) [] few fewer = refl
roomy zero (suc m) (b ∷ body) few fewer = absurd (omega arith)
roomy (suc n) zero [] few fewer = refl
roomy (suc n) zero (b ∷ body) few fewer = absurd (omega arith)
roomy (suc n) (suc m) [] few fewer = refl
roomy (suc n) (suc m) (b ∷ body) few fewer =
    let l = length-drop 65536 (b ∷ body) in
    ap (λ ps. take 65536 (b ∷ body) ∷ ps) (roomy n m (drop 65536 (b ∷ body)) (omega (arith, l, few)) (omega (arith, l, fewer)))

pub no_pieces : pieces [] ≡ []
unfolding pieces
no_pieces = refl

pub first_piece : (body : List ℕ) → 0 < length body → pieces body ≡ take 65536 body ∷ pieces (drop 65536 body)
unfolding pieces
first_piece [] some = absurd (omega arith)
first_piece (b ∷ body) some =
    let l = length-drop 65536 (b ∷ body) in
    ap (λ ps. take 65536 (b ∷ body) ∷ ps) (roomy (length body) (length (drop 65536 (b ∷ body))) (drop 65536 (b ∷ body)) (omega (arith, l)) (omega arith))

piece_is : (most n : ℕ) (xs : List ℕ) → n ≡ min (length xs) most → take n xs ≡ take most xs
piece_is most n xs e = grind (arith, common_steps)

rest_is : (most n at : ℕ) (xs : List ℕ) → n ≡ min (length xs - at) most → drop (at + n) xs ≡ drop most (drop at xs)
rest_is most n at xs e = grind (arith, common_steps)

-- the piece that begins there is put
pub chunk_on : (body out more : List ℕ) (at n : ℕ) → at < length body → n ≡ min (length body - at) 65536
    → more ≡ out ++ chunk (take n (drop at body))
    → more ++ flat_map chunk (pieces (drop (at + n) body)) ≡ out ++ flat_map chunk (pieces (drop at body))
chunk_on body out more at n some is adds =
    let l = length-drop at body in
    let whole : take n (drop at body) ≡ take 65536 (drop at body) = piece_is 65536 n (drop at body) (is ∙ ap (λ k. min k 65536) (sym l)) in
    let rest : drop (at + n) body ≡ drop 65536 (drop at body) = rest_is 65536 n at body is in
    adds_up out more (chunk (take n (drop at body))) (chunk (take 65536 (drop at body))) (pieces (drop (at + n) body)) (pieces (drop 65536 (drop at body))) (pieces (drop at body))
    (take 65536 (drop at body)) adds (ap chunk whole) refl (ap pieces rest) (first_piece (drop at body) (omega (arith, l, some)))
  where
    adds_up : (out more put first : List ℕ) (left rest all : List (List ℕ)) (piece : List ℕ) → more ≡ out ++ put → put ≡ first → first ≡ chunk piece → left ≡ rest
        → all ≡ piece ∷ rest → more ++ flat_map chunk left ≡ out ++ flat_map chunk all
    adds_up out more put first left rest all piece adds is named same splits =
        rw adds (rw same (rw splits (rw is (rw named (append_assoc out (chunk piece) (flat_map chunk rest))))))

pub all_put : (body out goal : List ℕ) (at : ℕ) → length body ≤ at → out ++ flat_map chunk (pieces (drop at body)) ≡ goal → out ≡ goal
all_put body out goal at past is =
    sym (append-nil out) ∙ ap (λ ps. out ++ flat_map chunk ps) (sym no_pieces ∙ ap pieces (sym (nothing at body past))) ∙ is
  where
    nothing : (n : ℕ) (xs : List ℕ) → length xs ≤ n → drop n xs ≡ []
    nothing n xs past = grind (arith, common_steps)
