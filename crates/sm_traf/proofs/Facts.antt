-- What a fitting body has room for.
use Rattle.std.proofs.Common.{◌≡◌, ◌≤◌, ◌<◌, ◌+◌, ◌*◌, ℕ, true, cond, eqb, leb, ◌&&◌, List, length, get_or, arith}
use Rattle.std.proofs.Math.Nat.{mul-le-mul_right}
use Rattle.std.proofs.lemmas.Bool.{and_parts, eqb-true, leb-true}
use Rattle.sm_model.specs.Numbers.{number32_at}
use Rattle.sm_model.specs.Fields.{tfhd_fits, tfhd_len, tfrf_fits, pair_len, version, trun_fits, rows_at, row_len}

pub record Fits (b : List ℕ) : Type 0 where
  pub five : 5 ≤ length b
  pub len : length b ≡ 5 + get_or b 4 0 * pair_len b

pub fits_ahead : (b : List ℕ) → tfrf_fits b ≡ true → Fits b
unfolding tfrf_fits
fits_ahead b e =
    let p = and_parts (leb 5 (length b)) (leb (version b) 1 && eqb (length b) (5 + get_or b 4 0 * pair_len b)) e in
    let q = and_parts (leb (version b) 1) (eqb (length b) (5 + get_or b 4 0 * pair_len b)) p.1 in
    record { five = leb-true _ _ p.0; len = eqb-true _ _ q.1 }

pub ahead_five : (b : List ℕ) → tfrf_fits b ≡ true → 5 ≤ length b
ahead_five b e = (fits_ahead b e).five

-- one more of n things of w bytes
pub one_more : (i n w : ℕ) → i < n → i * w + w ≤ n * w
one_more i n w lt = let h : (i + 1) * w ≤ n * w = mul-le-mul_right w (omega arith) in omega (arith, h)

-- the pair of an index below the count lies inside the body
pub ahead_room : (b : List ℕ) (i : ℕ) → tfrf_fits b ≡ true → i < get_or b 4 0 → 5 + i * pair_len b + cond (eqb (version b) 1) 16 8 ≤ length b
unfolding pair_len
ahead_room b i e lt = omega (arith, (fits_ahead b e).len, one_more i (get_or b 4 0) (cond (eqb (version b) 1) 16 8) lt)

pub record RunFits (b : List ℕ) : Type 0 where
  pub eight : 8 ≤ length b
  pub len : length b ≡ rows_at (number32_at 0 b) + number32_at 4 b * row_len (number32_at 0 b)

pub run_fits : (b : List ℕ) → trun_fits b ≡ true → RunFits b
unfolding trun_fits
run_fits b e =
    let p = and_parts (leb 8 (length b)) (leb (version b) 1 && eqb (length b) (rows_at (number32_at 0 b) + number32_at 4 b * row_len (number32_at 0 b))) e in
    let q = and_parts (leb (version b) 1) (eqb (length b) (rows_at (number32_at 0 b) + number32_at 4 b * row_len (number32_at 0 b))) p.1 in
    record { eight = leb-true _ _ p.0; len = eqb-true _ _ q.1 }

pub run_eight : (b : List ℕ) → trun_fits b ≡ true → 8 ≤ length b
run_eight b e = (run_fits b e).eight

-- the row of an index below the count lies inside the body
pub row_room : (b : List ℕ) (i : ℕ) → trun_fits b ≡ true → i < number32_at 4 b
    → rows_at (number32_at 0 b) + i * row_len (number32_at 0 b) + row_len (number32_at 0 b) ≤ length b
row_room b i e lt = omega (arith, (run_fits b e).len, one_more i (number32_at 4 b) (row_len (number32_at 0 b)) lt)

-- what stands in front of the rows lies inside the body
pub rows_front : (b : List ℕ) → trun_fits b ≡ true → rows_at (number32_at 0 b) ≤ length b
rows_front b e = omega (arith, (run_fits b e).len)

pub head_eight : (b : List ℕ) → tfhd_fits b ≡ true → 8 ≤ length b
unfolding tfhd_fits
head_eight b e = leb-true _ _ (and_parts (leb 8 (length b)) (eqb (length b) (tfhd_len (number32_at 0 b))) e).0

pub head_len : (b : List ℕ) → tfhd_fits b ≡ true → length b ≡ tfhd_len (number32_at 0 b)
unfolding tfhd_fits
head_len b e = eqb-true _ _ (and_parts (leb 8 (length b)) (eqb (length b) (tfhd_len (number32_at 0 b))) e).1
