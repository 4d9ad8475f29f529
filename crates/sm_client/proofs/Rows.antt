-- Starts that fall, and the place of one among them.
use Rattle.std.proofs.Common.{◌≡◌, ◌≢◌, ◌≤◌, ◌<◌, ◌+◌, ◌-◌, ℕ, zero, suc, Bool, true, false, cond, eqb, ltb, leb, ◌||◌, ◌&&◌, List, [], ◌∷◌, length, get_or, take, slice_get, Option, Some, IfSome, refl, ap, sym, ◌∙◌, arith, add-one}
use Rattle.std.proofs.lemmas.Bool.{eqb-true, eqb-false, ltb-true, ltb-false, leb-true}
use Rattle.std.specs.List.{AllByRecursion, AllWithin, insert}
use Rattle.sm_client.specs.Starts.{has, Falls, place_in}

pub by_bool : (b : Bool) (P : Bool → Type 0) → (b ≡ true → P true) → (b ≡ false → P false) → P b
by_bool true P t f = t refl
by_bool false P t f = f refl

or_assoc : (a b c : Bool) → (a || (b || c)) ≡ ((a || b) || c)
or_assoc true b c = refl
or_assoc false b c = refl

or_swap : (a b : Bool) → (a || b) ≡ (b || a)
or_swap true true = refl
or_swap true false = refl
or_swap false true = refl
or_swap false false = refl

pub or_true : (a b : Bool) → (a || b) ≡ true → a ≡ false → b ≡ true
or_true true b e f = absurd (cc)
or_true false b e f = e

pub no_eqb : (a b : ℕ) → a ≢ b → eqb a b ≡ false
no_eqb a b h = grind arith

pub same_eqb : (a : ℕ) → eqb a a ≡ true
same_eqb a = grind arith

-- ---- what falls

pub all_below : (x k : ℕ) (xs : List ℕ) → AllByRecursion (λ (y : ℕ). y < x) xs → has k xs ≡ true → k < x
all_below x k [] all e = absurd (cc)
all_below x k (y ∷ xs) all e =
    by_bool (eqb y k) (λ b. (b || has k xs) ≡ true → eqb y k ≡ b → k < x)
    (λ t h s. omega (arith, all.0, eqb-true y k s)) (λ f h s. all_below x k xs all.1 h) e refl

below_all : (x y : ℕ) (xs : List ℕ) → y ≤ x → AllByRecursion (λ (z : ℕ). z < y) xs → AllByRecursion (λ (z : ℕ). z < x) xs
below_all x y [] h all = tt
below_all x y (z ∷ xs) h all = (omega (arith, all.0, h), below_all x y xs h all.1)

head_higher : (x : ℕ) (xs : List ℕ) (j d : ℕ) → AllByRecursion (λ (y : ℕ). y < x) xs → j < length xs → get_or xs j d ≤ x
head_higher x [] j d all h = absurd (omega (arith, h))
head_higher x (y ∷ xs) zero d all h = omega (arith, all.0)
head_higher x (y ∷ xs) (suc j) d all h = head_higher x xs j d all.1 (omega (arith, h))

pub falling : (xs : List ℕ) → Falls xs → (i j d : ℕ) → i ≤ j → j < length xs → get_or xs j d ≤ get_or xs i d
falling [] f i j d h k = absurd (omega (arith, k))
falling (x ∷ xs) f zero zero d h k = omega arith
falling (x ∷ xs) f zero (suc j) d h k = head_higher x xs j d f.0 (omega (arith, k))
falling (x ∷ xs) f (suc i) zero d h k = absurd (omega (arith, h))
falling (x ∷ xs) f (suc i) (suc j) d h k = falling xs f.1 i j d (omega (arith, h)) (omega (arith, k))

-- what a search by halves gives
pub place_is : (start : ℕ) (xs : List ℕ) (i : ℕ) → i ≤ length xs → AllWithin (λ (y : ℕ). ltb start y ≡ true) xs 0 i
    → AllWithin (λ (y : ℕ). ltb start y ≡ false) xs i (length xs) → i ≡ place_in start xs
place_is start [] i h before after = omega (arith, h)
place_is start (x ∷ xs) zero h before after =
    by_bool (ltb start x) (λ b. ltb start x ≡ b → 0 ≡ cond b (place_in start xs + 1) 0)
    (λ t s. absurd (let n : ltb start x ≡ false = after 0 x (omega arith) (omega arith) in cc)) (λ f s. refl) refl
place_is start (x ∷ xs) (suc i) h before after =
    let rest : i ≡ place_in start xs = place_is start xs i (omega (arith, h)) (λ k d low high. before (suc k) d (omega arith) (omega (arith, high))) (λ k d low high. after (suc k) d (omega (arith, low)) (omega (arith, high))) in
    by_bool (ltb start x) (λ b. ltb start x ≡ b → suc i ≡ cond b (place_in start xs + 1) 0)
    (λ t s. omega (arith, rest)) (λ f s. absurd (let y : ltb start x ≡ true = before 0 x (omega arith) (omega arith) in cc)) refl

pub place_within : (start : ℕ) (xs : List ℕ) → place_in start xs ≤ length xs
place_within start [] = omega arith
place_within start (x ∷ xs) = by_bool (ltb start x) (λ b. cond b (place_in start xs + 1) 0 ≤ suc (length xs)) (λ t. omega (arith, place_within start xs)) (λ f. omega arith)

pub has_at : (k : ℕ) (xs : List ℕ) (i d : ℕ) → i < length xs → get_or xs i d ≡ k → has k xs ≡ true
has_at k [] i d h e = absurd (omega (arith, h))
has_at k (x ∷ xs) zero d h e = let t : eqb x k ≡ true = rw e (same_eqb k) in rw t refl
has_at k (x ∷ xs) (suc i) d h e = by_bool (eqb x k) (λ b. (b || has k xs) ≡ true) (λ t. refl) (λ f. has_at k xs i d (omega (arith, h)) e)

not_has : (k x : ℕ) (xs : List ℕ) → x ≤ k → AllByRecursion (λ (y : ℕ). y < x) xs → has k xs ≡ false
not_has k x xs h all =
    by_bool (has k xs) (λ b. has k xs ≡ b → b ≡ false) (λ t s. absurd (omega (arith, h, all_below x k xs all s))) (λ f s. refl) refl

pub absent_at : (start : ℕ) (xs : List ℕ) → Falls xs → ((d : ℕ) → place_in start xs < length xs → get_or xs (place_in start xs) d ≢ start) → has start xs ≡ false
absent_at start [] f other = refl
absent_at start (x ∷ xs) f other = by_test (ltb start x) refl other (λ o. absent_at start xs f.1 o)
  where
    by_test : (b : Bool) → ltb start x ≡ b → ((d : ℕ) → cond b (place_in start xs + 1) 0 < suc (length xs) → get_or (x ∷ xs) (cond b (place_in start xs + 1) 0) d ≢ start)
        → (((d : ℕ) → place_in start xs < length xs → get_or xs (place_in start xs) d ≢ start) → has start xs ≡ false)
        → (eqb x start || has start xs) ≡ false
    by_test true t other rest =
        let n : eqb x start ≡ false = no_eqb x start (λ e. omega (arith, e, ltb-true start x t)) in
        rw n (rest (λ d h. (rw add-one at (other d)) (omega (arith, h))))
    by_test false t other rest =
        let n : eqb x start ≡ false = no_eqb x start (other x (omega arith)) in
        let lower : x ≤ start = ltb-false start x t in
        rw n (not_has start x xs lower f.0)

-- ---- one more

pub has_insert : (s k : ℕ) (xs : List ℕ) → has k (insert xs (place_in s xs) s) ≡ (has k xs || eqb s k)
has_insert s k [] = or_swap (eqb s k) false
has_insert s k (x ∷ xs) = by_test (ltb s x) (has_insert s k xs)
  where
    by_test : (b : Bool) → has k (insert xs (place_in s xs) s) ≡ (has k xs || eqb s k)
        → has k (insert (x ∷ xs) (cond b (place_in s xs + 1) 0) s) ≡ ((eqb x k || has k xs) || eqb s k)
    by_test true rest = rw add-one (ap (λ b. eqb x k || b) rest ∙ or_assoc (eqb x k) (has k xs) (eqb s k))
    by_test false rest = or_swap (eqb s k) (eqb x k || has k xs)

insert_below : (s x : ℕ) (xs : List ℕ) → s < x → AllByRecursion (λ (y : ℕ). y < x) xs → AllByRecursion (λ (y : ℕ). y < x) (insert xs (place_in s xs) s)
insert_below s x [] h all = (h, tt)
insert_below s x (y ∷ xs) h all = by_test (ltb s y) (insert_below s x xs h all.1)
  where
    by_test : (b : Bool) → AllByRecursion (λ (y : ℕ). y < x) (insert xs (place_in s xs) s)
        → AllByRecursion (λ (y : ℕ). y < x) (insert (y ∷ xs) (cond b (place_in s xs + 1) 0) s)
    by_test true rest = rw add-one (all.0, rest)
    by_test false rest = (h, all)

pub falls_insert : (s : ℕ) (xs : List ℕ) → Falls xs → has s xs ≡ false → Falls (insert xs (place_in s xs) s)
falls_insert s [] f none = (tt, tt)
falls_insert s (x ∷ xs) f none = by_test (ltb s x) refl none (λ n. falls_insert s xs f.1 n)
  where
    by_test : (b : Bool) → ltb s x ≡ b → (eqb x s || has s xs) ≡ false → (has s xs ≡ false → Falls (insert xs (place_in s xs) s))
        → Falls (insert (x ∷ xs) (cond b (place_in s xs + 1) 0) s)
    by_test true t none rest =
        let n : has s xs ≡ false = or_no (eqb x s) (has s xs) none in
        rw add-one (insert_below s x xs (ltb-true s x t) f.0, rest n)
      where
        or_no : (a b : Bool) → (a || b) ≡ false → b ≡ false
        or_no true b e = absurd (cc)
        or_no false b e = e
    by_test false t none rest =
        let lower : x ≤ s = ltb-false s x t in
        let other : eqb x s ≡ false = or_no (eqb x s) (has s xs) none in
        let less : x < s = omega (arith, lower, eqb-false x s other) in
        ((less, below_all s x xs (omega (arith, less)) f.0), f)
      where
        or_no : (a b : Bool) → (a || b) ≡ false → a ≡ false
        or_no true b e = absurd (cc)
        or_no false b e = refl

-- ---- those from a start on

pub take_below : (x n : ℕ) (xs : List ℕ) → AllByRecursion (λ (y : ℕ). y < x) xs → AllByRecursion (λ (y : ℕ). y < x) (take n xs)
take_below x zero xs all = tt
take_below x (suc n) [] all = tt
take_below x (suc n) (y ∷ xs) all = (all.0, take_below x n xs all.1)

pub falls_take : (n : ℕ) (xs : List ℕ) → Falls xs → Falls (take n xs)
falls_take zero xs f = tt
falls_take (suc n) [] f = tt
falls_take (suc n) (x ∷ xs) f = (take_below x n xs f.0, falls_take n xs f.1)

pub has_take : (b k : ℕ) (xs : List ℕ) → Falls xs → has k (take (place_in b xs) xs) ≡ (leb (b + 1) k && has k xs)
has_take b k [] f = by_bool (leb (b + 1) k) (λ t. false ≡ (t && false)) (λ t. refl) (λ t. refl)
has_take b k (x ∷ xs) f = by_test (ltb b x) refl (has_take b k xs f.1)
  where
    by_test : (t : Bool) → ltb b x ≡ t → has k (take (place_in b xs) xs) ≡ (leb (b + 1) k && has k xs)
        → has k (take (cond t (place_in b xs + 1) 0) (x ∷ xs)) ≡ (leb (b + 1) k && (eqb x k || has k xs))
    by_test true t rest =
        rw (add-one, rest) (by_bool (eqb x k) (λ s. eqb x k ≡ s → (s || (leb (b + 1) k && has k xs)) ≡ (leb (b + 1) k && (s || has k xs)))
        (λ e s. let over : leb (b + 1) k ≡ true = le_leb (b + 1) k (omega (arith, eqb-true x k s, ltb-true b x t)) in rw over refl) (λ e s. refl) refl)
      where
        le_leb : (m n : ℕ) → m ≤ n → leb m n ≡ true
        le_leb m n h = grind arith
    by_test false t rest =
        by_bool (leb (b + 1) k) (λ s. leb (b + 1) k ≡ s → false ≡ (s && (eqb x k || has k xs)))
        (λ e s. sym (none (leb-true (b + 1) k s))) (λ e s. refl) refl
      where
        none : b + 1 ≤ k → (eqb x k || has k xs) ≡ false
        none h = let lower : x ≤ b = ltb-false b x t in
            let n : eqb x k ≡ false = no_eqb x k (λ e. omega (arith, e, h, lower)) in
            rw n (not_has k x xs (omega (arith, h, lower)) f.0)

-- ---- the lowest

last_of : (x : ℕ) (xs : List ℕ) → ℕ
last_of x [] = x
last_of x (y ∷ ys) = last_of y ys

abbrev get_last : (x : ℕ) (xs : List ℕ) → Option ℕ
get_last x xs = slice_get (x ∷ xs) (length xs)

last_is : (x : ℕ) (xs : List ℕ) → get_last x xs ≡ Some (last_of x xs)
unfolding last_of
last_is x [] = refl
last_is x (y ∷ ys) = last_is y ys

last_has : (x : ℕ) (xs : List ℕ) → has (last_of x xs) (x ∷ xs) ≡ true
unfolding last_of
last_has x [] = let t : eqb x x ≡ true = same_eqb x in rw t refl
last_has x (y ∷ ys) = by_bool (eqb x (last_of y ys)) (λ b. (b || has (last_of y ys) (y ∷ ys)) ≡ true) (λ t. refl) (λ f. last_has y ys)

last_low : (x : ℕ) (xs : List ℕ) → Falls (x ∷ xs) → (k : ℕ) → has k (x ∷ xs) ≡ true → last_of x xs ≤ k
unfolding last_of
last_low x [] f k e = by_bool (eqb x k) (λ b. eqb x k ≡ b → (b || false) ≡ true → x ≤ k) (λ t s h. omega (arith, eqb-true x k s)) (λ n s h. absurd (cc)) refl e
last_low x (y ∷ ys) f k e =
    by_bool (eqb x k) (λ b. eqb x k ≡ b → (b || has k (y ∷ ys)) ≡ true → last_of y ys ≤ k)
    (λ t s h. omega (arith, eqb-true x k s, f.0.0, last_low y ys f.1 y (head_has y ys)))
    (λ n s h. last_low y ys f.1 k h) refl e
  where
    head_has : (y : ℕ) (ys : List ℕ) → has y (y ∷ ys) ≡ true
    head_has y ys = let t : eqb y y ≡ true = same_eqb y in rw t refl

abbrev pub IsLowest : List ℕ → Option ℕ → Type 0
IsLowest xs o = IfSome o (λ n. (has n xs ≡ true) × ((k : ℕ) → has k xs ≡ true → n ≤ k))

pub lowest_is : (xs : List ℕ) (o : Option ℕ) → Falls xs → o ≡ slice_get xs (length xs - 1) → IsLowest xs o
lowest_is [] o f e = rw e tt
lowest_is (x ∷ xs) o f e =
    let s : length (x ∷ xs) - 1 ≡ length xs = omega arith in
    let is : o ≡ Some (last_of x xs) = e ∙ ap (slice_get (x ∷ xs)) s ∙ last_is x xs in
    rw is (last_has x xs, last_low x xs f)

-- ---- as the code has them

pub put_falls : (s place : ℕ) (xs zs ys : List ℕ) → zs ≡ xs → Falls xs → place ≡ place_in s zs → has s zs ≡ false → ys ≡ insert xs place s → Falls ys
put_falls s place xs zs ys same f at none is = rw (is, at, same) (falls_insert s xs f (rw (← same) none))

pub put_has : (s place : ℕ) (xs zs ys : List ℕ) → zs ≡ xs → place ≡ place_in s zs → ys ≡ insert xs place s → (k : ℕ) → has k ys ≡ (has k xs || eqb s k)
put_has s place xs zs ys same at is k = rw (is, at, same) (has_insert s k xs)

pub cut_falls : (n : ℕ) (xs ys : List ℕ) → Falls xs → ys ≡ take n xs → Falls ys
cut_falls n xs ys f is = rw is (falls_take n xs f)

pub cut_has : (b n : ℕ) (xs zs ys : List ℕ) → 0 < b → zs ≡ xs → Falls xs → n ≡ place_in (b - 1) zs → ys ≡ take n xs → (k : ℕ) → has k ys ≡ (leb b k && has k xs)
cut_has b n xs zs ys h same f at is k =
    let up : b - 1 + 1 ≡ b = omega (arith, h) in
    rw (is, at, same) (has_take (b - 1) k xs f ∙ ap (λ c. leb c k && has k xs) up)
