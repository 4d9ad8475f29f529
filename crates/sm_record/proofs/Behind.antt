-- What is behind a step of reading.
use Rattle.std.proofs.Common.{◌≡◌, ℕ, zero, suc, ◌+◌, ◌≤◌, Bool, true, false, ltb, List, [], ◌∷◌, length, drop, take, Some, sym, ap, ◌∙◌, arith}
use Rattle.std.specs.Int.{Width, w32, w64, byte_len, from_be_bytes}
use Rattle.std.proofs.lemmas.Bool.{ltb-false}
use Rattle.std.proofs.lemmas.List.{drop-drop, length-drop}
use Rattle.sm_record.specs.declared.fields.Front.{Front}
use Rattle.sm_record.specs.Reading.{number_at, byte_at, flag_at, front_at}
use Rattle.sm_record.proofs.Steps.{bind_some, guard_some, some_is}

-- so many bytes were taken, and these are behind them
pub record Behind (n : ℕ) (bytes rest : List ℕ) : Type 0 where
  pub long : n ≤ length bytes
  pub is : rest ≡ drop n bytes

then : (n m : ℕ) (a b c : List ℕ) → Behind n a b → Behind m b c → Behind (n + m) a c
then n m a b c p q = record {
  long = omega (arith, p.long, q.long, ap length p.is, length-drop n a);
  is = q.is ∙ ap (λ (x : List ℕ). drop m x) p.is ∙ drop-drop m n a;
}

number_behind : (w : Width) (bytes : List ℕ) (x : ℕ × List ℕ) → number_at w bytes ≡ Some x → Behind (byte_len w) bytes x.1
number_behind w bytes x e =
    let g = guard_some (ltb (length bytes) (byte_len w)) (from_be_bytes w (take (byte_len w) bytes), drop (byte_len w) bytes) x e in
    record { long = ltb-false _ _ g.0; is = sym (ap (λ (p : ℕ × List ℕ). p.1) g.1) }

pub byte_behind : (bytes : List ℕ) (x : ℕ × List ℕ) → byte_at bytes ≡ Some x → Behind 1 bytes x.1
byte_behind [] x e = absurd cc
byte_behind (b ∷ bs) x e = record { long = omega arith; is = sym (ap (λ (p : ℕ × List ℕ). p.1) (some_is (b, bs) x e)) }

flag_behind : (bytes : List ℕ) (x : Bool × List ℕ) → flag_at bytes ≡ Some x → Behind 1 bytes x.1
unfolding flag_at
flag_behind [] x e = absurd cc
flag_behind (zero ∷ bs) x e = record { long = omega arith; is = sym (ap (λ (p : Bool × List ℕ). p.1) (some_is (false, bs) x e)) }
flag_behind (suc zero ∷ bs) x e = record { long = omega arith; is = sym (ap (λ (p : Bool × List ℕ). p.1) (some_is (true, bs) x e)) }
flag_behind (suc (suc b) ∷ bs) x e = absurd cc

-- place, time, duration, sign and count are 25 bytes
pub front_behind : (bytes : List ℕ) (x : Front × List ℕ) → front_at bytes ≡ Some x → Behind 25 bytes x.1
unfolding front_at
front_behind bytes x e =
    let place = bind_some (number_at w32 bytes) _ x e in
    let time = bind_some (number_at w64 place.0.1) _ x place.2 in
    let duration = bind_some (number_at w64 time.0.1) _ x time.2 in
    let signed = bind_some (flag_at duration.0.1) _ x duration.2 in
    let count = bind_some (number_at w32 signed.0.1) _ x signed.2 in
    let to_time = then 4 8 _ _ _ (number_behind w32 bytes place.0 place.1) (number_behind w64 place.0.1 time.0 time.1) in
    let to_duration = then 12 8 _ _ _ to_time (number_behind w64 time.0.1 duration.0 duration.1) in
    let to_signed = then 20 1 _ _ _ to_duration (flag_behind duration.0.1 signed.0 signed.1) in
    let all = then 21 4 _ _ _ to_signed (number_behind w32 signed.0.1 count.0 count.1) in
    record { long = all.long; is = sym (ap (λ (p : Front × List ℕ). p.1) (some_is _ x count.2)) ∙ all.is }
