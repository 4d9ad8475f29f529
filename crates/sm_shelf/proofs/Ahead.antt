-- Of what stands ahead of a fragment there are at most two.
use Rattle.std.proofs.Common.{arith, ◌≡◌, ◌≤◌, ◌+◌, ℕ, suc, List, [], ◌∷◌, length, Option, None, Some, slice_get, refl}
use Rattle.sm_model.specs.declared.track.Track.{Track}
use Rattle.sm_log.specs.Times.{entry_at}
use Rattle.sm_log.specs.Adds.{Add, starting, two_from, behind, ahead, listed, times_of}

starting_few : (k start : ℕ) (o : Option ℕ) (more : ℕ → List (ℕ × ℕ)) → ((n : ℕ) → length (more n) ≤ k) → length (starting start o more) ≤ suc k
starting_few k start None more few = omega arith
starting_few k start (Some d) more few = omega (arith, few (start + d))

two_few : (times : List (ℕ × ℕ)) (start : ℕ) → length (two_from times start) ≤ 2
two_few times start =
    starting_few 1 start (entry_at start times) _ (λ next. starting_few 0 next (entry_at next times) (λ _. []) (λ n. omega arith))

behind_few : (times : List (ℕ × ℕ)) (start : ℕ) (o : Option ℕ) → length (behind times start o) ≤ 2
behind_few times start None = omega arith
behind_few times start (Some d) = two_few times (start + d)

pub ahead_few : (channel : List Track) (adds : List Add) (stream : List ℕ) (start : ℕ) → length (ahead channel adds stream start) ≤ 2
ahead_few channel adds stream start = behind_few (listed channel adds stream) start (entry_at start (times_of stream adds))

module _ {A : Type 0} where
  pub none_is : (xs : List A) → None ≡ slice_get xs 0 → xs ≡ []
  none_is [] e = refl
  none_is (x ∷ xs) e = cc

  pub one_is : (xs : List A) (a : A) → Some a ≡ slice_get xs 0 → None ≡ slice_get xs 1 → xs ≡ a ∷ []
  one_is [] a first second = cc
  one_is (x ∷ []) a first second = cc
  one_is (x ∷ y ∷ xs) a first second = cc

  pub two_are : (xs : List A) (a b : A) → Some a ≡ slice_get xs 0 → Some b ≡ slice_get xs 1 → length xs ≤ 2 → xs ≡ a ∷ b ∷ []
  two_are [] a b first second few = cc
  two_are (x ∷ []) a b first second few = cc
  two_are (x ∷ y ∷ []) a b first second few = cc
  two_are (x ∷ y ∷ z ∷ xs) a b first second few = absurd (omega (arith, few))
