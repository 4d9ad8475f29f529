-- How many tracks of a stream are kept at a time.
use Rattle.std.proofs.Common.{◌≡◌, ◌≢◌, ◌≤◌, ◌+◌, ℕ, Bool, true, false, ◌&&◌, ◌||◌, cond, eqb, List, [], ◌∷◌, length, filter, refl, sym, ap, subst, ◌∙◌, suc, arith}
use Rattle.std.proofs.lemmas.Bool.{eqb-true, eqb-false, eq-eqb, ne_eqb}
use Rattle.std.specs.List.{AllByRecursion, list_all, list_any}
use Rattle.sm_model.specs.declared.track.Track.{Track}
use Rattle.sm_log.proofs.Choice.{chosen}

-- how many pass
abbrev pub passing : {X : Type 0} → (X → Bool) → List X → ℕ
passing p xs = length (filter p xs)

pub passing_most : {X : Type 0} (p : X → Bool) (xs : List X) → passing p xs ≤ length xs
passing_most p [] = omega arith
passing_most p (x ∷ xs) =
    chosen (p x) (λ l. length l ≤ suc (length xs)) (x ∷ filter p xs) (filter p xs) (λ _. omega (arith, passing_most p xs)) (λ _. omega (arith, passing_most p xs))

next_test : (m n : ℕ) → eqb m n ≡ eqb (suc m) (suc n)
next_test m n = tested (eqb m n) refl
  where
    tested : (b : Bool) → eqb m n ≡ b → b ≡ eqb (suc m) (suc n)
    tested true is = sym (eq-eqb (suc m) (suc n) (ap suc (eqb-true m n is)))
    tested false is = sym (ne_eqb (suc m) (suc n) (λ e. eqb-false m n is (omega (arith, e))))

-- all pass where as many pass as there are
pub all_by_count : {X : Type 0} (p : X → Bool) (xs : List X) → list_all p xs ≡ eqb (passing p xs) (length xs)
all_by_count p [] = refl
all_by_count p (x ∷ xs) = by_test (p x) (all_by_count p xs)
  where
    by_test : (b : Bool) → list_all p xs ≡ eqb (passing p xs) (length xs) → (b && list_all p xs) ≡ eqb (length (cond b (x ∷ filter p xs) (filter p xs))) (suc (length xs))
    by_test true rest = rest ∙ next_test (passing p xs) (length xs)
    by_test false rest = sym (ne_eqb _ _ (λ e. omega (arith, e, passing_most p xs)))

pub all_same : {X : Type 0} (p q : X → Bool) (xs : List X) → ((x : X) → q x ≡ p x) → list_all q xs ≡ list_all p xs
all_same p q [] same = refl
all_same p q (x ∷ xs) same = let first = same x in let rest = all_same p q xs same in rw (first, rest) refl

pub count_same : {X : Type 0} (p q : X → Bool) (xs : List X) → ((x : X) → q x ≡ p x) → passing q xs ≡ passing p xs
count_same p q [] same = refl
count_same p q (x ∷ xs) same =
    let first = same x in
    let rest = count_same p q xs same in
    rw first (by_test (p x) rest)
  where
    by_test : (b : Bool) → passing q xs ≡ passing p xs → length (cond b (x ∷ filter q xs) (filter q xs)) ≡ length (cond b (x ∷ filter p xs) (filter p xs))
    by_test true rest = ap suc rest
    by_test false rest = rest

-- ---- one track more

abbrev pub HasBitrate : ℕ → List Track → Type 0
HasBitrate r ts = list_any (λ t. eqb t.bitrate r) ts ≡ true

abbrev pub DifferInBitrate : List Track → Type 0
DifferInBitrate [] = Unit {0}
DifferInBitrate (t ∷ ts) = AllByRecursion (λ u. t.bitrate ≢ u.bitrate) ts × DifferInBitrate ts

or_left_false : (a b : Bool) → b ≡ false → (a || b) ≡ a
or_left_false true b off = refl
or_left_false false b off = off

none_other : (p q : Track → Bool) (r : ℕ) (ts : List Track) → ((t : Track) → q t ≡ (p t || eqb t.bitrate r)) → AllByRecursion (λ (u : Track). r ≢ u.bitrate) ts → passing q ts ≡ passing p ts
none_other p q r [] is other = refl
none_other p q r (t ∷ ts) is other =
    let rest = none_other p q r ts is other.1 in
    let off : eqb t.bitrate r ≡ false = ne_eqb t.bitrate r (λ e. other.0 (sym e)) in
    let same : q t ≡ p t = is t ∙ or_left_false (p t) (eqb t.bitrate r) off in
    rw same (by_test (p t) rest)
  where
    by_test : (b : Bool) → passing q ts ≡ passing p ts → length (cond b (t ∷ filter q ts) (filter q ts)) ≡ length (cond b (t ∷ filter p ts) (filter p ts))
    by_test true rest = ap suc rest
    by_test false rest = rest

pub count_flip : (p q : Track → Bool) (r : ℕ) (ts : List Track) → ((t : Track) → q t ≡ (p t || eqb t.bitrate r)) → ((t : Track) → t.bitrate ≡ r → p t ≡ false)
    → DifferInBitrate ts → HasBitrate r ts → passing q ts ≡ passing p ts + 1
count_flip p q r [] is off differ has = absurd cc
count_flip p q r (t ∷ ts) is off differ has = by_test (eqb t.bitrate r) refl has (λ h. count_flip p q r ts is off differ.1 h)
  where
    step : (b : Bool) → passing q ts ≡ passing p ts + 1 → length (cond b (t ∷ filter q ts) (filter q ts)) ≡ length (cond b (t ∷ filter p ts) (filter p ts)) + 1
    step true rest = omega (arith, rest)
    step false rest = rest

    by_test : (b : Bool) → eqb t.bitrate r ≡ b → (b || list_any (λ (u : Track). eqb u.bitrate r) ts) ≡ true → (HasBitrate r ts → passing q ts ≡ passing p ts + 1)
        → length (cond (q t) (t ∷ filter q ts) (filter q ts)) ≡ length (cond (p t) (t ∷ filter p ts) (filter p ts)) + 1
    by_test true e has rest =
        let at : t.bitrate ≡ r = eqb-true t.bitrate r e in
        let was : p t ≡ false = off t at in
        let now : q t ≡ true = is t ∙ rw (was, e) refl in
        let others : passing q ts ≡ passing p ts = none_other p q r ts is (subst (λ (n : ℕ). AllByRecursion (λ (u : Track). n ≢ u.bitrate) ts) at differ.0) in
        rw (now, was) (omega (arith, others))
    by_test false e has rest =
        let keeps : q t ≡ p t = is t ∙ or_left_false (p t) (eqb t.bitrate r) e in
        rw keeps (step (p t) (rest has))

-- a track that isn't kept keeps a time from being listed
pub not_all : (p : Track → Bool) (r : ℕ) (ts : List Track) → ((t : Track) → t.bitrate ≡ r → p t ≡ false) → HasBitrate r ts → list_all p ts ≡ false
not_all p r [] off has = absurd cc
not_all p r (t ∷ ts) off has = by_test (eqb t.bitrate r) refl has (λ h. not_all p r ts off h)
  where
    by_and : (a : Bool) → list_all p ts ≡ false → (a && list_all p ts) ≡ false
    by_and true none = none
    by_and false none = refl

    by_test : (b : Bool) → eqb t.bitrate r ≡ b → (b || list_any (λ (u : Track). eqb u.bitrate r) ts) ≡ true → (HasBitrate r ts → list_all p ts ≡ false) → (p t && list_all p ts) ≡ false
    by_test true e has rest = rw (off t (eqb-true t.bitrate r e)) refl
    by_test false e has rest = by_and (p t) (rest has)
