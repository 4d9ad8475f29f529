-- The bytes of a track, where those of one are written anew.
use Rattle.std.proofs.Common.{◌≡◌, ◌≢◌, ◌<◌, ◌≤◌, ltb, Some, None, ◌+◌, ℕ, zero, suc, Bool, true, false, not, cond, eqb, List, [], ◌∷◌, ◌++◌, length, get_or, refl, ap, ◌∙◌, arith}
use Rattle.std.proofs.Math.ListN.{set}
use Rattle.std.proofs.lemmas.Bool.{eqb-true, ltb-true, ltb-false}
use Rattle.std.specs.List.{position_or_len, position}
use Rattle.sm_ends.specs.TracksHeld.{TrackHeld, held_at}

abbrev is_track : ℕ → TrackHeld → Bool
is_track k t = eqb t.track k

-- those of the track that is written anew
pub held_there : (k : ℕ) (xs : List TrackHeld) (i : ℕ) (y d : TrackHeld) → position_or_len (is_track k) xs ≡ i → i < length xs
    → y.track ≡ (get_or xs i d).track → held_at (set xs i y) k ≡ y.bytes
held_there k [] i y d place within same = absurd (omega arith)
held_there k (x ∷ xs) i y d place within same = by_test (eqb x.track k) refl i place within same (λ j p w s. held_there k xs j y d p w s)
  where
    by_test : (b : Bool) → eqb x.track k ≡ b → (i : ℕ) → cond (not b) (1 + position_or_len (is_track k) xs) 0 ≡ i → i < suc (length xs)
        → y.track ≡ (get_or (x ∷ xs) i d).track
        → ((j : ℕ) → position_or_len (is_track k) xs ≡ j → j < length xs → y.track ≡ (get_or xs j d).track → held_at (set xs j y) k ≡ y.bytes)
        → held_at (set (x ∷ xs) i y) k ≡ y.bytes
    by_test true t zero place within same rest = let yes : eqb y.track k ≡ true = ap (λ n. eqb n k) same ∙ t in rw yes refl
    by_test true t (suc i) place within same rest = absurd (omega (arith, place))
    by_test false t zero place within same rest = absurd (omega (arith, place))
    by_test false t (suc i) place within same rest = rw t (rest i (omega (arith, place)) (omega arith) same)

-- those that it held before
pub held_was : (k : ℕ) (xs : List TrackHeld) (i : ℕ) (d : TrackHeld) → position_or_len (is_track k) xs ≡ i → i < length xs
    → held_at xs k ≡ (get_or xs i d).bytes
held_was k [] i d place within = absurd (omega arith)
held_was k (x ∷ xs) i d place within = by_test (eqb x.track k) refl i place within (λ j p w. held_was k xs j d p w)
  where
    by_test : (b : Bool) → eqb x.track k ≡ b → (i : ℕ) → cond (not b) (1 + position_or_len (is_track k) xs) 0 ≡ i → i < suc (length xs)
        → ((j : ℕ) → position_or_len (is_track k) xs ≡ j → j < length xs → held_at xs k ≡ (get_or xs j d).bytes)
        → cond b x.bytes (held_at xs k) ≡ (get_or (x ∷ xs) i d).bytes
    by_test true t zero place within rest = refl
    by_test true t (suc i) place within rest = absurd (omega (arith, place))
    by_test false t zero place within rest = absurd (omega (arith, place))
    by_test false t (suc i) place within rest = rest i (omega (arith, place)) (omega arith)

-- those of another track
pub held_elsewhere : (k : ℕ) (xs : List TrackHeld) (i : ℕ) (y d : TrackHeld) → y.track ≡ (get_or xs i d).track → (get_or xs i d).track ≢ k
    → held_at (set xs i y) k ≡ held_at xs k
held_elsewhere k [] i y d same other = refl
held_elsewhere k (x ∷ xs) zero y d same other =
    let away : eqb x.track k ≡ false = eqb_not x.track k other in
    let away' : eqb y.track k ≡ false = ap (λ n. eqb n k) same ∙ away in
    rw (away, away') refl
  where
    eqb_not : (a b : ℕ) → a ≢ b → eqb a b ≡ false
    eqb_not a b h = grind arith
held_elsewhere k (x ∷ xs) (suc i) y d same other = ap (λ r. cond (eqb x.track k) x.bytes r) (held_elsewhere k xs i y d same other)

-- the track at the place that was found
pub track_there : (k : ℕ) (xs : List TrackHeld) (i : ℕ) (d : TrackHeld) → position_or_len (is_track k) xs ≡ i → i < length xs → (get_or xs i d).track ≡ k
track_there k [] i d place within = absurd (omega arith)
track_there k (x ∷ xs) i d place within = by_test (eqb x.track k) refl i place within (λ j p w. track_there k xs j d p w)
  where
    by_test : (b : Bool) → eqb x.track k ≡ b → (i : ℕ) → cond (not b) (1 + position_or_len (is_track k) xs) 0 ≡ i → i < suc (length xs)
        → ((j : ℕ) → position_or_len (is_track k) xs ≡ j → j < length xs → (get_or xs j d).track ≡ k)
        → (get_or (x ∷ xs) i d).track ≡ k
    by_test true t zero place within rest = eqb-true x.track k t
    by_test true t (suc i) place within rest = absurd (omega (arith, place))
    by_test false t zero place within rest = absurd (omega (arith, place))
    by_test false t (suc i) place within rest = rest i (omega (arith, place)) (omega arith)

-- none where no track has the number
pub held_nowhere : (k : ℕ) (xs : List TrackHeld) → length xs ≤ position_or_len (is_track k) xs → held_at xs k ≡ []
held_nowhere k [] place = refl
held_nowhere k (x ∷ xs) place = by_test (eqb x.track k) place (λ p. held_nowhere k xs p)
  where
    by_test : (b : Bool) → suc (length xs) ≤ cond (not b) (1 + position_or_len (is_track k) xs) 0
        → (length xs ≤ position_or_len (is_track k) xs → held_at xs k ≡ [])
        → cond b x.bytes (held_at xs k) ≡ []
    by_test true place rest = absurd (omega (arith, place))
    by_test false place rest = rest (omega (arith, place))

-- what the search for a place gives
pub found_place : (k : ℕ) (xs : List TrackHeld) (i : ℕ) → position (is_track k) xs ≡ Some i → (position_or_len (is_track k) xs ≡ i) × (i < length xs)
found_place k xs i is = by_test (ltb (position_or_len (is_track k) xs) (length xs)) refl is
  where
    by_test : (b : Bool) → ltb (position_or_len (is_track k) xs) (length xs) ≡ b → cond b (Some (position_or_len (is_track k) xs)) None ≡ Some i
        → (position_or_len (is_track k) xs ≡ i) × (i < length xs)
    by_test true t is = let same : position_or_len (is_track k) xs ≡ i = cc in (same, omega (arith, same, ltb-true _ _ t))
    by_test false t is = absurd (cc)

pub no_place : (k : ℕ) (xs : List TrackHeld) → position (is_track k) xs ≡ None → length xs ≤ position_or_len (is_track k) xs
no_place k xs is = by_test (ltb (position_or_len (is_track k) xs) (length xs)) refl is
  where
    by_test : (b : Bool) → ltb (position_or_len (is_track k) xs) (length xs) ≡ b → cond b (Some (position_or_len (is_track k) xs)) None ≡ None
        → length xs ≤ position_or_len (is_track k) xs
    by_test true t is = absurd (cc)
    by_test false t is = ltb-false _ _ t

-- a track that begins
pub held_begun : (k : ℕ) (t : TrackHeld) (bytes : List ℕ) (xs ys : List TrackHeld) → ys ≡ t ∷ xs → t ≡ record { track = k; bytes = bytes } → held_at xs k ≡ []
    → held_at ys k ≡ held_at xs k ++ bytes
held_begun k t bytes xs ys is begun none = let yes : eqb k k ≡ true = grind arith in rw (is, begun, none, yes) refl
