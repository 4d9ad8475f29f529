-- Known starts, as they are taken in.
use Rattle.std.proofs.Common.{◌≡◌, ◌<◌, ◌≤◌, ◌+◌, ◌-◌, ℕ, zero, suc, Bool, true, false, cond, eqb, ltb, leb, ◌||◌, ◌&&◌}
use Rattle.std.proofs.Common.{List, [], ◌∷◌, ◌++◌, length, get_or, take, drop, Some, refl, ap, sym, ◌∙◌, arith, drop-cons, add-one, append-nil, append_assoc}
use Rattle.std.proofs.lemmas.List.{take_more}
use Rattle.std.proofs.lemmas.Bool.{eqb-true, leb-true, ltb-true, ltb-false}
use Rattle.std.specs.List.{AllByRecursion}
use Rattle.sm_client.specs.Starts.{has, starts, Falls, AreAfter}
use Rattle.sm_client.specs.declared.standing.Standing as code
use Rattle.sm_client.specs.Stands.{Standing}
use Rattle.sm_client.specs.Calls.{KnowsFrom, Holds, Follows}
use Rattle.sm_client.proofs.Rows.{by_bool, no_eqb, same_eqb}

-- ---- tests

or_assoc : (a b c : Bool) → (a || (b || c)) ≡ ((a || b) || c)
or_assoc true b c = refl
or_assoc false b c = refl

or_false : (a : Bool) → (a || false) ≡ a
or_false true = refl
or_false false = refl

and_or : (e a b : Bool) → ((e && a) || (e && b)) ≡ (e && (a || b))
and_or true a b = refl
and_or false a b = refl

or_swap : (a b : Bool) → (a || b) ≡ (b || a)
or_swap true true = refl
or_swap true false = refl
or_swap false true = refl
or_swap false false = refl

has_append : (k : ℕ) (xs ys : List ℕ) → has k (xs ++ ys) ≡ (has k xs || has k ys)
has_append k [] ys = refl
has_append k (x ∷ xs) ys = ap (λ b. eqb x k || b) (has_append k xs ys) ∙ or_assoc (eqb x k) (has k xs) (has k ys)

starts_append : (xs ys : List (ℕ × ℕ)) → starts (xs ++ ys) ≡ starts xs ++ starts ys
starts_append [] ys = refl
starts_append (x ∷ xs) ys = ap (λ l. x.0 ∷ l) (starts_append xs ys)

-- a start that isn't before the expected one, or one that is
here : (e s k : ℕ) → e ≤ s → (leb e k && eqb s k) ≡ eqb s k
here e s k h =
    by_bool (eqb s k) (λ b. eqb s k ≡ b → (leb e k && b) ≡ b)
    (λ t is. let over : leb e k ≡ true = le_leb e k (omega (arith, eqb-true s k is, h)) in rw over refl)
    (λ f is. by_bool (leb e k) (λ b. (b && false) ≡ false) (λ t. refl) (λ f. refl)) refl
  where
    le_leb : (m n : ℕ) → m ≤ n → leb m n ≡ true
    le_leb m n h = grind arith

gone : (e s k : ℕ) → s < e → (leb e k && eqb s k) ≡ false
gone e s k h =
    by_bool (eqb s k) (λ b. eqb s k ≡ b → (leb e k && b) ≡ false)
    (λ t is. let under : leb e k ≡ false = gt_leb e k (omega (arith, eqb-true s k is, h)) in rw under refl)
    (λ f is. by_bool (leb e k) (λ b. (b && false) ≡ false) (λ t. refl) (λ f. refl)) refl
  where
    gt_leb : (m n : ℕ) → n < m → leb m n ≡ false
    gt_leb m n h = grind arith

-- ---- one start more

pub knows-nothing : (e : ℕ) (known : List ℕ) → known ≡ [] → KnowsFrom e [] known
knows-nothing e known is = rw is (record { once = tt; are = λ k. by_bool (leb e k) (λ b. false ≡ (b && false)) (λ t. refl) (λ f. refl) })

pub knows-more : {e : ℕ} {all known : List ℕ} (s : ℕ) (now : List ℕ) → KnowsFrom e all known → e ≤ s → Falls now → ((k : ℕ) → has k now ≡ (has k known || eqb s k)) → KnowsFrom e (s ∷ all) now
knows-more {e = e} {all = all} s now r h falls is = record {
  once = falls;
  are = λ k. is k ∙ (ap (λ b. b || eqb s k) (r.are k) ∙ (ap (λ b. (leb e k && has k all) || b) (sym (here e s k h))
      ∙ (and_or (leb e k) (has k all) (eqb s k) ∙ ap (λ b. leb e k && b) (or_swap (has k all) (eqb s k)))));
}

pub knows-past : {e : ℕ} {all known : List ℕ} (s : ℕ) → KnowsFrom e all known → s < e → KnowsFrom e (s ∷ all) known
knows-past {e = e} {all = all} s r h = record {
  once = r.once;
  are = λ k. r.are k ∙ sym (sym (and_or (leb e k) (eqb s k) (has k all)) ∙ ap (λ b. b || (leb e k && has k all)) (gone e s k h));
}

-- the same starts, in another order
pub knows-same : {e : ℕ} {all known : List ℕ} (now : List ℕ) → KnowsFrom e all known → ((k : ℕ) → has k now ≡ has k all) → KnowsFrom e now known
knows-same {e = e} now r is = record { once = r.once; are = λ k. r.are k ∙ ap (λ b. leb e k && b) (sym (is k)) }

behind : (s : ℕ) (xs : List ℕ) (k : ℕ) → has k (xs ++ s ∷ []) ≡ has k (s ∷ xs)
behind s xs k = has_append k xs (s ∷ []) ∙ (ap (λ b. has k xs || b) (or_false (eqb s k)) ∙ or_swap (has k xs) (eqb s k))

pub knows-behind : {e : ℕ} {all known : List ℕ} (s : ℕ) → KnowsFrom e (s ∷ all) known → KnowsFrom e (all ++ s ∷ []) known
knows-behind {all = all} s r = knows-same (all ++ s ∷ []) r (behind s all)

-- those before a later start are let go
pub knows-later : {e : ℕ} {all known : List ℕ} (f : ℕ) (now : List ℕ) → KnowsFrom e all known → e ≤ f → Falls now → ((k : ℕ) → has k now ≡ (leb f k && has k known)) → KnowsFrom f all now
knows-later {e = e} {all = all} f now r h falls is = record {
  once = falls;
  are = λ k. is k ∙ (ap (λ b. leb f k && b) (r.are k) ∙ both k);
}
  where
    le_leb : (m n : ℕ) → m ≤ n → leb m n ≡ true
    le_leb m n h = grind arith

    both : (k : ℕ) → (leb f k && (leb e k && has k all)) ≡ (leb f k && has k all)
    both k =
        by_bool (leb f k) (λ b. leb f k ≡ b → (b && (leb e k && has k all)) ≡ (b && has k all))
        (λ t is. let under : leb e k ≡ true = le_leb e k (omega (arith, leb-true f k is, h)) in rw under refl) (λ n is. refl) refl

-- ---- lists of times

pub starts-drop : (ts : List (ℕ × ℕ)) (i : ℕ) (t : ℕ × ℕ) → i < length ts → get_or ts i t ≡ t → starts (drop i ts) ≡ t.0 ∷ starts (drop (i + 1) ts)
starts-drop ts i t h e = rw (add-one, drop-cons ts i t) (ap (λ u. u.0 ∷ starts (drop (suc i) ts)) e)

-- of these times, those from this place on were taken in
pub record Taken (e : ℕ) (ts : List (ℕ × ℕ)) (left : ℕ) (known : List ℕ) : Type 0 where
  pub within : left ≤ length ts
  pub knows : KnowsFrom e (starts (drop left ts)) known

pub taken-start : (e : ℕ) (ts : List (ℕ × ℕ)) (known : List ℕ) → known ≡ [] → Taken e ts (length ts) known
taken-start e ts known is = record { within = omega arith; knows = rw (drop_all ts) (knows-nothing e known is) }
  where
    drop_all : (ts : List (ℕ × ℕ)) → drop (length ts) ts ≡ []
    drop_all [] = refl
    drop_all (t ∷ ts) = drop_all ts

pub taken-more : {e : ℕ} {ts : List (ℕ × ℕ)} {left : ℕ} {known : List ℕ} (i : ℕ) (now : List ℕ) (t : ℕ × ℕ) → Taken e ts left known → i + 1 ≡ left → get_or ts i t ≡ t
    → ((all : List ℕ) → KnowsFrom e all known → KnowsFrom e (t.0 ∷ all) now) → Taken e ts i now
taken-more {ts = ts} i now t r is at more =
    let fits : i < length ts = omega (arith, is, r.within) in
    record { within = omega (arith, fits); knows = rw (starts-drop ts i t fits at) (more (starts (drop (i + 1) ts)) (rw is r.knows)) }

-- of these times, those up to this place were taken in, behind others
pub record TakenIn (e : ℕ) (ts : List (ℕ × ℕ)) (upto : ℕ) (before known : List ℕ) : Type 0 where
  pub knows : (all : List ℕ) → KnowsFrom e all before → KnowsFrom e (all ++ starts (take upto ts)) known

pub taken_in-start : (e : ℕ) (ts : List (ℕ × ℕ)) (known : List ℕ) → TakenIn e ts 0 known known
taken_in-start e ts known = record { knows = λ all r. rw append-nil r }

pub taken_in-more : {e : ℕ} {ts : List (ℕ × ℕ)} {upto : ℕ} {before known : List ℕ} (now : List ℕ) (t : ℕ × ℕ) → TakenIn e ts upto before known → upto < length ts → get_or ts upto t ≡ t
    → ((all : List ℕ) → KnowsFrom e all known → KnowsFrom e (t.0 ∷ all) now) → TakenIn e ts (upto + 1) before now
taken_in-more {ts = ts} {upto = upto} now t r fits at more = record {
  knows = λ all k.
      let one : starts (take (upto + 1) ts) ≡ starts (take upto ts) ++ t.0 ∷ [] = ap starts (take_more ts upto t fits ∙ ap (λ u. take upto ts ++ u ∷ []) at) ∙ starts_append (take upto ts) (t ∷ []) in
      rw (one, ← (append_assoc all (starts (take upto ts)) (t.0 ∷ []))) (knows-behind t.0 (more (all ++ starts (take upto ts)) (r.knows all k)));
}

pub taken_in-end : {e : ℕ} {ts : List (ℕ × ℕ)} {upto : ℕ} {before known : List ℕ} → TakenIn e ts upto before known → length ts ≤ upto
    → (all : List ℕ) → KnowsFrom e all before → KnowsFrom e (all ++ starts ts) known
taken_in-end {ts = ts} {upto = upto} r h all k = rw (← (take_all ts upto h)) (r.knows all k)
  where
    take_all : (ts : List (ℕ × ℕ)) (n : ℕ) → length ts ≤ n → take n ts ≡ ts
    take_all [] zero h = refl
    take_all [] (suc n) h = refl
    take_all (t ∷ ts) zero h = absurd (omega (arith, h))
    take_all (t ∷ ts) (suc n) h = ap (λ l. t ∷ l) (take_all ts n (omega (arith, h)))

pub taken-end : {e : ℕ} {ts : List (ℕ × ℕ)} {left : ℕ} {known : List ℕ} → Taken e ts left known → left ≡ 0 → KnowsFrom e (starts ts) known
taken-end {e = e} {ts = ts} {known = known} r is = rw is at r.knows

-- ---- those behind the expected one

above : ℕ → List ℕ → List ℕ
above e [] = []
above e (x ∷ xs) = cond (ltb e x) (x ∷ above e xs) (above e xs)

has-above : (e k : ℕ) (xs : List ℕ) → has k (above e xs) ≡ (ltb e k && has k xs)
unfolding above
has-above e k [] = by_bool (ltb e k) (λ b. false ≡ (b && false)) (λ t. refl) (λ f. refl)
has-above e k (x ∷ xs) = by_test (ltb e x) refl (has-above e k xs)
  where
    by_test : (b : Bool) → ltb e x ≡ b → has k (above e xs) ≡ (ltb e k && has k xs) → has k (cond b (x ∷ above e xs) (above e xs)) ≡ (ltb e k && (eqb x k || has k xs))
    by_test true t rest =
        rw rest (by_bool (eqb x k) (λ s. eqb x k ≡ s → (s || (ltb e k && has k xs)) ≡ (ltb e k && (s || has k xs)))
        (λ y is. let over : ltb e k ≡ true = lt_ltb e k (omega (arith, eqb-true x k is, ltb-true e x t)) in rw over refl) (λ n is. refl) refl)
      where
        lt_ltb : (m n : ℕ) → m < n → ltb m n ≡ true
        lt_ltb m n h = grind arith
    by_test false t rest =
        rw rest (by_bool (eqb x k) (λ s. eqb x k ≡ s → (ltb e k && has k xs) ≡ (ltb e k && (s || has k xs)))
        (λ y is. let under : ltb e k ≡ false = ge_ltb e k (omega (arith, eqb-true x k is, ltb-false e x t)) in rw under refl) (λ n is. refl) refl)
      where
        ge_ltb : (m n : ℕ) → n ≤ m → ltb m n ≡ false
        ge_ltb m n h = grind arith

above_below : (e x : ℕ) (xs : List ℕ) → AllByRecursion (λ (y : ℕ). y < x) xs → AllByRecursion (λ (y : ℕ). y < x) (above e xs)
unfolding above
above_below e x [] all = tt
above_below e x (y ∷ xs) all =
    by_bool (ltb e y) (λ b. AllByRecursion (λ (z : ℕ). z < x) (cond b (y ∷ above e xs) (above e xs))) (λ t. (all.0, above_below e x xs all.1)) (λ f. above_below e x xs all.1)

falls-above : (e : ℕ) (xs : List ℕ) → Falls xs → Falls (above e xs)
unfolding above
falls-above e [] f = tt
falls-above e (x ∷ xs) f =
    by_bool (ltb e x) (λ b. Falls (cond b (x ∷ above e xs) (above e xs))) (λ t. (above_below e x xs f.0, falls-above e xs f.1)) (λ n. falls-above e xs f.1)

head_has : (x : ℕ) (xs : List ℕ) → has x (x ∷ xs) ≡ true
head_has x xs = let t : eqb x x ≡ true = same_eqb x in rw t refl

tail_has : (x k : ℕ) (xs : List ℕ) → has k xs ≡ true → has k (x ∷ xs) ≡ true
tail_has x k xs h = by_bool (eqb x k) (λ b. (b || has k xs) ≡ true) (λ t. refl) (λ f. h)

nothing_below : (e x : ℕ) (xs : List ℕ) → x ≤ e → AllByRecursion (λ (y : ℕ). y < x) xs → ((k : ℕ) → has k (x ∷ xs) ≡ true → e ≤ k) → length xs ≡ 0
nothing_below e x [] h all low = refl
nothing_below e x (y ∷ ys) h all low = absurd (omega (arith, h, all.0, low y (tail_has x y (y ∷ ys) (head_has y ys))))

shorter : (e : ℕ) (ys : List ℕ) → length (above e ys) ≤ length ys
unfolding above
shorter e [] = omega arith
shorter e (y ∷ ys) = by_bool (ltb e y) (λ b. length (cond b (y ∷ above e ys) (above e ys)) ≤ suc (length ys)) (λ t. omega (arith, shorter e ys)) (λ n. omega (arith, shorter e ys))

length-above : (e : ℕ) (xs : List ℕ) → Falls xs → has e xs ≡ true → ((k : ℕ) → has k xs ≡ true → e ≤ k) → length (above e xs) + 1 ≡ length xs
unfolding above
length-above e [] f h low = absurd (cc)
length-above e (x ∷ xs) f h low = by_test (ltb e x) refl (λ t l. length-above e xs f.1 t l)
  where
    by_test : (b : Bool) → ltb e x ≡ b → (has e xs ≡ true → ((k : ℕ) → has k xs ≡ true → e ≤ k) → length (above e xs) + 1 ≡ length xs)
        → length (cond b (x ∷ above e xs) (above e xs)) + 1 ≡ suc (length xs)
    by_test true t rest =
        let other : eqb x e ≡ false = no_eqb x e (λ is. omega (arith, is, ltb-true e x t)) in
        let there : has e xs ≡ true = rw other at h in
        omega (arith, rest there (λ k y. low k (tail_has x k xs y)))
    by_test false t rest = omega (arith, nothing_below e x xs (ltb-false e x t) f.0 low, shorter e xs)

pub known_low : {e : ℕ} {all xs : List ℕ} → KnowsFrom e all xs → (k : ℕ) → has k xs ≡ true → e ≤ k
known_low {e = e} {all = all} r k h =
    by_bool (leb e k) (λ b. leb e k ≡ b → (b && has k all) ≡ true → e ≤ k) (λ t is y. leb-true e k is) (λ n is y. absurd (cc)) refl (sym (r.are k) ∙ h)

-- the known starts behind the expected one, which is known too
pub ahead-is : {e : ℕ} {all xs : List ℕ} (n : ℕ) → KnowsFrom e all xs → has e all ≡ true → n ≡ length xs - 1 → (after : List ℕ) × AreAfter all e after × (length after ≡ n)
ahead-is {e = e} {all = all} {xs = xs} n r h is =
    let same : leb e e ≡ true = le_leb e in
    let there : has e xs ≡ true = r.are e ∙ rw same h in (
      above e xs,
      record {
        once = falls-above e xs r.once;
        are = λ k. has-above e k xs ∙ (ap (λ b. ltb e k && b) (r.are k) ∙ both k);
      },
      omega (arith, length-above e xs r.once there (known_low r), is),
    )
  where
    le_leb : (m : ℕ) → leb m m ≡ true
    le_leb m = grind arith

    lt_leb : (m n : ℕ) → m < n → leb m n ≡ true
    lt_leb m n h = grind arith

    both : (k : ℕ) → (ltb e k && (leb e k && has k all)) ≡ (ltb e k && has k all)
    both k =
        by_bool (ltb e k) (λ b. ltb e k ≡ b → (b && (leb e k && has k all)) ≡ (b && has k all))
        (λ t y. let under : leb e k ≡ true = lt_leb e k (ltb-true e k y) in rw under refl) (λ n y. refl) refl

-- ---- a fragment was written

pub holds-follows : {s : code.Standing} {p q : Standing} {expected : ℕ} {ahead : List (ℕ × ℕ)} (kept known : List ℕ) → Holds s p → Follows p q expected ahead
    → ((k : ℕ) → has k kept ≡ (leb expected k && has k s.known)) → Falls kept
    → ((all : List ℕ) → KnowsFrom expected all kept → KnowsFrom expected (all ++ starts ahead) known)
    → Holds (record { listing = s.listing; expected = expected; known = known; written = s.written + 1; manifests = 0 }) q
holds-follows {s = s} {p = p} {q = q} {expected = expected} kept known h f has falls more = record {
  listing = h.listing ∙ f.listed;
  expected = sym f.expects;
  known = rw (f.expects, f.knows) (more p.known (knows-later expected kept h.known f.later falls has));
  written = omega (arith, h.written, f.more);
  manifests = sym f.anew;
  levels = rw (← f.listed) h.levels;
  same = λ some. absurd (omega (arith, f.anew, some));
  unlisted = λ none. absurd (let some : q.listing ≡ Some f.is_listed.0 = f.is_listed.1 in cc);
}

pub known_has : {e : ℕ} {all xs : List ℕ} → KnowsFrom e all xs → (k : ℕ) → has k xs ≡ true → has k all ≡ true
known_has {e = e} {all = all} r k h = by_bool (leb e k) (λ b. (b && has k all) ≡ true → has k all ≡ true) (λ t y. y) (λ n y. absurd (cc)) (sym (r.are k) ∙ h)

pub has_known : {e : ℕ} {all xs : List ℕ} → KnowsFrom e all xs → (k : ℕ) → e ≤ k → has k all ≡ true → has k xs ≡ true
has_known {e = e} {all = all} r k over h = let t : leb e k ≡ true = le_leb e k over in r.are k ∙ rw (t, h) refl
  where
    le_leb : (m n : ℕ) → m ≤ n → leb m n ≡ true
    le_leb m n h = grind arith
