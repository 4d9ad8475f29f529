-- One byte again and again.
use Rattle.std.proofs.Common.{◌≡◌, ◌≤◌, ◌+◌, ◌-◌, ◌++◌, ℕ, List, [], length, take, replicate, arith, refl, subst}
use Rattle.std.proofs.Math.Seq.{take-append_seam}
use Rattle.std.proofs.lemmas.List.{length-replicate, replicate-append-replicate}
use Rattle.sm_ends.specs.Memory.{copies_of}

-- a front of them, and the rest
pub copies_of-front : (left byte n : ℕ) (copies rest : List ℕ) → n ≤ left → copies ≡ replicate n byte
    → copies_of left byte ≡ take n (copies ++ rest) ++ copies_of (left - n) byte
unfolding copies_of
copies_of-front left byte n copies rest fits is =
    let len : length copies ≡ n = rw (is, length-replicate) refl in
    let front : take n (copies ++ rest) ≡ copies = subst (λ k. take k (copies ++ rest) ≡ copies) len (take-append_seam copies rest) in
    let sum : n + (left - n) ≡ left = omega arith in
    rw (front, is, replicate-append-replicate, sum) refl

pub copies_of-end : (left byte : ℕ) → left ≡ 0 → copies_of left byte ≡ []
unfolding copies_of
copies_of-end left byte none = rw none refl
