-- Runs of the machine over data.
use Rattle.std.proofs.Common.{◌≡◌, ℕ, ◌-◌, ◌<◌, ◌≤◌, List, [], ◌∷◌, length, take, get_or, refl, ap, ◌∙◌, arith}
use Rattle.std.proofs.lemmas.Bool.Decides.{nat_tests}
use Rattle.std.proofs.lemmas.Grind.{common_steps}
use Rattle.std.proofs.lemmas.List.{length-take}
use Rattle.sm_body.specs.declared.place.Place.{Place}
use Rattle.sm_body.specs.declared.place.Place.TheVariants.{Counted, Data, DataReturn, Ended}
use Rattle.sm_body.specs.Places.{next_place, place_after, body_from}

-- the place behind one byte of data
data_step : (left b : ℕ) → 1 < left → next_place (Data left) b ≡ Data (left - 1)
data_step left b more = grind (arith, nat_tests)

data_last : (left b : ℕ) → left ≡ 1 → next_place (Data left) b ≡ DataReturn
data_last left b one = grind (arith, nat_tests)

pub data_partly : (left : ℕ) (bs : List ℕ) → length bs < left → place_after (Data left) bs ≡ Data (left - length bs)
data_partly left [] short = ap (λ n. Data n) (omega arith)
data_partly left (b ∷ bs) short =
    rw (data_step left b (omega arith)) (data_partly (left - 1) bs (omega arith) ∙ ap (λ n. Data n) (omega arith))

pub data_wholly : (left : ℕ) (bs : List ℕ) → 0 < left → length bs ≡ left → place_after (Data left) bs ≡ DataReturn
data_wholly left [] some same = absurd (omega arith)
data_wholly left (b ∷ []) some same = data_last left b (omega arith)
data_wholly left (b ∷ c ∷ bs) some same =
    rw (data_step left b (omega arith)) (data_wholly (left - 1) (c ∷ bs) (omega arith) (omega arith))

counted_step : (left b : ℕ) → 1 < left → next_place (Counted left) b ≡ Counted (left - 1)
counted_step left b more = grind (arith, nat_tests)

counted_last : (left b : ℕ) → left ≡ 1 → next_place (Counted left) b ≡ Ended
counted_last left b one = grind (arith, nat_tests)

pub counted_partly : (left : ℕ) (bs : List ℕ) → length bs < left → place_after (Counted left) bs ≡ Counted (left - length bs)
counted_partly left [] short = ap (λ n. Counted n) (omega arith)
counted_partly left (b ∷ bs) short =
    rw (counted_step left b (omega arith)) (counted_partly (left - 1) bs (omega arith) ∙ ap (λ n. Counted n) (omega arith))

pub counted_wholly : (left : ℕ) (bs : List ℕ) → 0 < left → length bs ≡ left → place_after (Counted left) bs ≡ Ended
counted_wholly left [] some same = absurd (omega arith)
counted_wholly left (b ∷ []) some same = counted_last left b (omega arith)
counted_wholly left (b ∷ c ∷ bs) some same =
    rw (counted_step left b (omega arith)) (counted_wholly (left - 1) (c ∷ bs) (omega arith) (omega arith))

-- the place behind the first byte
pub first_byte : (place : Place) (bs : List ℕ) → 0 < length bs → place_after place (take 1 bs) ≡ next_place place (get_or bs 0 0)
first_byte place [] some = absurd (omega arith)
first_byte place (c ∷ bs) some = refl

-- a step that takes as many bytes of a counted body as there are
pub counted_gives : (left n : ℕ) (bytes : List ℕ) → 0 < left → n ≤ left → n ≤ length bytes → (n < left → n ≡ length bytes)
    → (n ≡ left → place_after (Counted left) (take n bytes) ≡ Ended) × (n < left → place_after (Counted left) (take n bytes) ≡ Counted (left - n))
counted_gives left n bytes some low within all =
    let l : length (take n bytes) ≡ n = grind (arith, common_steps) in
    ((λ e. counted_wholly left (take n bytes) some (l ∙ e)), (λ h. counted_partly left (take n bytes) (omega arith) ∙ ap (λ k. Counted (left - k)) l))

pub data_gives : (left n : ℕ) (bytes : List ℕ) → 0 < left → n ≤ left → n ≤ length bytes → (n < left → n ≡ length bytes)
    → (n ≡ left → place_after (Data left) (take n bytes) ≡ DataReturn) × (n < left → place_after (Data left) (take n bytes) ≡ Data (left - n))
data_gives left n bytes some low within all =
    let l : length (take n bytes) ≡ n = grind (arith, common_steps) in
    ((λ e. data_wholly left (take n bytes) some (l ∙ e)), (λ h. data_partly left (take n bytes) (omega arith) ∙ ap (λ k. Data (left - k)) l))

-- all bytes up to the last one left are of the body
pub counted_body : (left : ℕ) (bs : List ℕ) → length bs ≤ left → body_from (Counted left) bs ≡ bs
counted_body left [] short = refl
counted_body left (b ∷ []) short = refl
counted_body left (b ∷ c ∷ bs) short =
    rw (counted_step left b (omega arith)) (ap (λ t. b ∷ t) (counted_body (left - 1) (c ∷ bs) (omega arith)))

pub data_body : (left : ℕ) (bs : List ℕ) → length bs ≤ left → body_from (Data left) bs ≡ bs
data_body left [] short = refl
data_body left (b ∷ []) short = refl
data_body left (b ∷ c ∷ bs) short =
    rw (data_step left b (omega arith)) (ap (λ t. b ∷ t) (data_body (left - 1) (c ∷ bs) (omega arith)))

pub counted_taken : (left n : ℕ) (bytes : List ℕ) → n ≤ left → body_from (Counted left) (take n bytes) ≡ take n bytes
counted_taken left n bytes low = let l = length-take n bytes in counted_body left (take n bytes) (omega arith)

pub data_taken : (left n : ℕ) (bytes : List ℕ) → n ≤ left → body_from (Data left) (take n bytes) ≡ take n bytes
data_taken left n bytes low = let l = length-take n bytes in data_body left (take n bytes) (omega arith)
