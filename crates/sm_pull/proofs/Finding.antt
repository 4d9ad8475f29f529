-- The first element that passes a test, and the first track that a manifest lacks.
use Rattle.std.proofs.Common.{◌≡◌, ◌⊎◌, ◌<◌, ℕ, suc, Bool, true, false, cond, List, [], ◌∷◌, ◌++◌, length, length-append, Option, Some, None, refl, ap, sym, ◌∙◌, subst, arith, inl, inr}
use Rattle.std.specs.Prelude.{MatchOption, not, nat_lt}
use Rattle.std.specs.List.{AllByRecursion, position, position_or_len}
use Rattle.std.proofs.lemmas.Bool.Decides.{nat_tests}
use Rattle.sm_model.specs.declared.track.Track.{Track}
use Rattle.sm_manin.specs.declared.listing.Listing.{Listing}
use Rattle.sm_pull.specs.Tracks.{has_track, HasTracks, IsFirstMissing}

module _ {A : Type 0} (p : A → Bool) where
  pub record First (xs : List A) (i : ℕ) : Type 0 where
    pub front : List A
    pub x : A
    pub back : List A
    pub is : xs ≡ front ++ x ∷ back
    pub at : i ≡ length front
    pub before : AllByRecursion (λ y. p y ≡ false) front
    pub here : p x ≡ true

pub by_bool : (b : Bool) (P : Bool → Type 0) → (b ≡ true → P true) → (b ≡ false → P false) → P b
by_bool true P so other = so refl
by_bool false P so other = other refl

module _ {A : Type 0} (p : A → Bool) where
  first_more : (x : A) (xs : List A) → p x ≡ false → AllByRecursion (λ y. p y ≡ false) xs ⊎ ((i : ℕ) × First p xs i) → AllByRecursion (λ y. p y ≡ false) (x ∷ xs) ⊎ ((i : ℕ) × First p (x ∷ xs) i)
  first_more x xs fails (inl all) = inl (fails, all)
  first_more x xs fails (inr (i, f)) = inr (suc i, record { front = x ∷ f.front; x = f.x; back = f.back; is = ap (λ (ys : List A). x ∷ ys) f.is; at = ap suc f.at; before = (fails, f.before); here = f.here })

  search_first : (xs : List A) → AllByRecursion (λ y. p y ≡ false) xs ⊎ ((i : ℕ) × First p xs i)
  search_first [] = inl tt
  search_first (x ∷ xs) =
      by_bool (p x) (λ b. p x ≡ b → AllByRecursion (λ y. p y ≡ false) (x ∷ xs) ⊎ ((i : ℕ) × First p (x ∷ xs) i))
      (λ t is. inr (0, record { front = []; x = x; back = xs; is = refl; at = refl; before = tt; here = is }))
      (λ f is. first_more x xs is (search_first xs)) refl

  none_len : (xs : List A) → AllByRecursion (λ y. p y ≡ false) xs → position_or_len p xs ≡ length xs
  none_len [] all = refl
  none_len (x ∷ xs) all = rw all.0 (let e = none_len xs all.1 in omega (arith, e))

  first_len : (front back : List A) (x : A) → AllByRecursion (λ y. p y ≡ false) front → p x ≡ true → position_or_len p (front ++ x ∷ back) ≡ length front
  first_len [] back x all here = rw here refl
  first_len (y ∷ front) back x all here = rw all.0 (let e = first_len front back x all.1 here in omega (arith, e))

none_below : (n m : ℕ) → n ≡ m → ◌≡◌ {A = Option ℕ} (cond (nat_lt n m) (Some n) None) None
none_below n m is = grind (arith, nat_tests)

some_below : (n m : ℕ) → n < m → cond (nat_lt n m) (Some n) None ≡ Some n
some_below n m lt = grind (arith, nat_tests)

module _ {A : Type 0} (p : A → Bool) where
  pub first_found : (xs : List A) → MatchOption (position p xs) (AllByRecursion (λ y. p y ≡ false) xs) (First p xs)
  first_found xs = by (search_first p xs)
    where
      by : AllByRecursion (λ y. p y ≡ false) xs ⊎ ((i : ℕ) × First p xs i) → MatchOption (position p xs) (AllByRecursion (λ y. p y ≡ false) xs) (First p xs)
      by (inl all) = rw (none_below (position_or_len p xs) (length xs) (none_len p xs all)) all
      by (inr (i, f)) =
          let at : position_or_len p xs ≡ length f.front = ap (position_or_len p) f.is ∙ first_len p f.front f.back f.x f.before f.here in
          let lt : length f.front < length xs = let all = ap length f.is in let both = length-append f.front (f.x ∷ f.back) in omega (arith, all, both) in
          rw (at, some_below (length f.front) (length xs) lt) (record { front = f.front; x = f.x; back = f.back; is = f.is; at = refl; before = f.before; here = f.here })

-- ---- the first track that a manifest lacks

not_false : (b : Bool) → not b ≡ false → b ≡ true
not_false true e = refl
not_false false e = absurd (cc)

not_true : (b : Bool) → not b ≡ true → b ≡ false
not_true true e = absurd (cc)
not_true false e = refl

all_there : (l : Listing) (ts : List Track) → AllByRecursion (λ t. not (has_track l t) ≡ false) ts → HasTracks l ts
all_there l [] all = tt
all_there l (t ∷ ts) all = (not_false (has_track l t) all.0, all_there l ts all.1)

missing : (l : Listing) (ts : List Track) (r : Option ℕ) → MatchOption r (AllByRecursion (λ t. not (has_track l t) ≡ false) ts) (First (λ t. not (has_track l t)) ts)
    → MatchOption r (HasTracks l ts) (IsFirstMissing l ts)
missing l ts None all = all_there l ts all
missing l ts (Some i) f = record {
  front = f.front;
  track = f.x;
  back = f.back;
  channel_is = f.is;
  index_is = f.at;
  there = all_there l f.front f.before;
  lacks = not_true (has_track l f.x) f.here;
}

pub first_missing : (l : Listing) (ts : List Track) (r : Option ℕ) → r ≡ position (λ t. not (has_track l t)) ts → MatchOption r (HasTracks l ts) (IsFirstMissing l ts)
first_missing l ts r is =
    missing l ts r (subst (λ (o : Option ℕ). MatchOption o (AllByRecursion (λ t. not (has_track l t) ≡ false) ts) (First (λ t. not (has_track l t)) ts)) (sym is)
    (first_found (λ (t : Track). not (has_track l t)) ts))
