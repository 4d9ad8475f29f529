-- What an end has taken or given, over several calls.
use Rattle.std.proofs.Common.{◌≤◌, min, ◌≡◌, ◌+◌, ◌-◌, ℕ, List, ◌++◌, length, take, drop, Option, sym, ◌∙◌, arith, subst, length-append}
use Rattle.std.proofs.Math.Seq.{take-add, drop-drop, take-append_seam}
use Rattle.std.proofs.lemmas.List.{take-append-drop, take_rest}
use Rattle.std.proofs.lemmas.Grind.{common_steps}
use Rattle.std.proofs.KnownBytes.{Appends-trans, Consumes-trans}
use Rattle.std.specs.Io.KnownBytes.{Appends, Consumes}
use Rattle.sm_ends.specs.Moves.{TakesCount}

-- a front of the bytes, and then a front of the rest
pub Appends-front : (a b c : Option (List ℕ)) (bytes : List ℕ) (m n : ℕ)
    → Appends a b (take m bytes) → Appends b c (take n (take (length bytes - m) (drop m bytes))) → Appends a c (take (m + n) bytes)
Appends-front a b c bytes m n p q =
    let q' : Appends b c (take n (drop m bytes)) = rw (← (take_rest bytes m)) q in
    rw (take-add m n bytes) (Appends-trans a b c (take m bytes) (take n (drop m bytes)) p q')

-- what was taken lies in front of what a further call takes
pub Consumes-front : (a b c : Option (List ℕ)) (before room after : List ℕ) (m n : ℕ) → take m room ≡ take m before → take m after ≡ take m room
    → Consumes a b (take m before) → Consumes b c (take n (drop m after)) → Consumes a c (take (m + n) after)
Consumes-front a b c before room after m n first second p q =
    let p' : Consumes a b (take m after) = subst (Consumes a b) (sym (second ∙ first)) p in
    rw (take-add m n after) (Consumes-trans a b c (take m after) (take n (drop m after)) p' q)

pub TakesCount-more : (a b c : Option (List ℕ)) (xs : List ℕ) (m n : ℕ) → length xs ≡ m → Consumes a b xs → TakesCount b c n → TakesCount a c (m + n)
TakesCount-more a b c xs m n len p q = (xs ++ q.0, Consumes-trans a b c xs q.0 p q.1, length-append xs q.0 ∙ omega (arith, len, q.2))

-- what is left, as what was copied and what is left after it
pub copied : (bytes before copy : List ℕ) (at n m : ℕ)
    → copy ≡ take n (take (length bytes - at) (drop at bytes))
    → n ≡ min (length (take (length bytes - at) (drop at bytes))) m
    → drop at bytes ≡ take n (copy ++ drop n before) ++ drop (at + n) bytes
copied bytes before copy at n m copies count =
    let rest : List ℕ = drop at bytes in
    let is : copy ≡ take n rest = rw (← (take_rest bytes at)) copies in
    let fits : n ≤ length rest = rw (← (take_rest bytes at)) (omega (arith, count)) in
    let len : length copy ≡ n = rw is (grind (arith, common_steps, fits)) in
    let front : take n (copy ++ drop n before) ≡ copy = subst (λ k. take k (copy ++ drop n before) ≡ copy) len (take-append_seam copy (drop n before)) in
    rw (front, is, ← (drop-drop n at bytes)) (sym (take-append-drop n rest))
