-- Rows and pairs, one more at a time.
use Rattle.std.proofs.Common.{◌≡◌, ◌+◌, ◌*◌, ℕ, List, [], ◌∷◌, ◌++◌, eqb, refl, add-one, arith}
use Rattle.sm_model.specs.declared.run.Defaults.{Defaults}
use Rattle.sm_model.specs.Numbers.{number32_at}
use Rattle.sm_model.specs.Fields.{row, rows, row_at, row_len, rows_at, tfrf_pair, pairs}

pub rows_none : (d : Defaults) (b : List ℕ) → rows d b 0 ≡ []
unfolding rows
rows_none d b = refl

pub rows_more : (d : Defaults) (b : List ℕ) (i : ℕ) → rows d b (i + 1) ≡ rows d b i ++ row d b i ∷ []
unfolding rows
rows_more d b i = rw add-one refl

pub pairs_none : (b : List ℕ) → pairs b 0 ≡ []
unfolding pairs
pairs_none b = refl

pub pairs_more : (b : List ℕ) (i : ℕ) → pairs b (i + 1) ≡ pairs b i ++ tfrf_pair b i ∷ []
unfolding pairs
pairs_more b i = rw add-one refl

-- the row whose fields stand at its place
pub row_here : (d : Defaults) (b : List ℕ) (i at : ℕ) → at ≡ rows_at (number32_at 0 b) + i * row_len (number32_at 0 b)
    → row_at d (number32_at 0 b) at b (eqb i 0) ≡ row d b i
unfolding row
row_here d b i at e = rw e refl

-- the place of the next one
pub next_place : (front i width at : ℕ) → at ≡ front + i * width → at + width ≡ front + (i + 1) * width
next_place front i width at e = omega (arith, e)
