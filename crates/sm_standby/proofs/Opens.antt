-- Addresses that wait once each, where nothing is kept.
use Rattle.std.proofs.Common.{◌≡◌, ◌<◌, ◌||◌, ◌&&◌, ℕ, suc, Bool, true, false, cond, eqb, List, [], ◌∷◌, ◌++◌, length, Option, Some, None, Result, Ok, Err, refl, ap, sym, ◌∙◌, subst, arith}
use Rattle.std.specs.Prelude.{bytes_eq, OnOk, IfErr, IsErrAnd}
use Rattle.std.proofs.lemmas.Bool.{eqb-true}
use Rattle.std.proofs.lemmas.Slice.Eq.{bytes_eq-Decides}
use Rattle.sm_model.specs.declared.address.Address.{Address}
use Rattle.sm_model.specs.declared.entry.Entry.{Entry}
use Rattle.sm_model.specs.declared.entry.Entry.TheVariants.{Declare, Keep}
use Rattle.sm_model.specs.declared.fragment.Fragment.{Fragment}
use Rattle.sm_model.specs.Entries.{address_of}
use Rattle.sm_log.specs.Logs.{kept_from, kept_at, is_kept_at}
use Rattle.sm_standby.specs.declared.held.Later.{Later}
use Rattle.sm_standby.specs.Waiting.{due, without, is_of, waits, AreOpen}

-- ---- tests

pub by_bool : (b : Bool) (P : Bool → Type 0) → (b ≡ true → P true) → (b ≡ false → P false) → P b
by_bool true P t f = t refl
by_bool false P t f = f refl

pub or_left : (a b : Bool) → (a || b) ≡ false → a ≡ false
or_left true b e = absurd (cc)
or_left false b e = refl

pub or_right : (a b : Bool) → (a || b) ≡ false → b ≡ false
or_right true b e = absurd (cc)
or_right false b e = e

pub or_both : (a b : Bool) → a ≡ false → b ≡ false → (a || b) ≡ false
or_both true b e f = e
or_both false b e f = f

-- ---- answers

-- what holds of an answer by two of its clauses
pub on_both : {T E P Q R : Type 0} (r : Result T E) → (P → Q → R) → OnOk r P → OnOk r Q → OnOk r R
on_both (Ok x) so p q = so p q
on_both (Err e) so p q = tt

-- the error that is passed on
pub passed_on : {T E : Type 0} (r : Result T E) (P : E → Type 0) (why : E) → IsErrAnd r (λ e. e ≡ why) → P why → IfErr r P
passed_on (Ok x) P why same p = tt
passed_on (Err e) P why same p = subst P (sym same) p

-- ---- one address

same_address : (s t : List ℕ) (m n x y : ℕ) → s ≡ t → m ≡ n → x ≡ y
    → ◌≡◌ {A = Address} (record { stream = s; bitrate = m; time = x }) (record { stream = t; bitrate = n; time = y })
same_address s t m n x y p q r =
    ap (λ (u : List ℕ). record { stream = u; bitrate = m; time = x }) p ∙ (ap (λ (k : ℕ). record { stream = t; bitrate = k; time = x }) q ∙ ap (λ (k : ℕ). record { stream = t; bitrate = n; time = k }) r)

pub is_of-same : (a b : Address) → is_of a b ≡ true → a ≡ b
is_of-same a b e = step (bytes_eq a.stream b.stream) refl (eqb a.bitrate b.bitrate) refl (eqb a.time b.time) refl e
  where
    step : (p : Bool) → bytes_eq a.stream b.stream ≡ p → (q : Bool) → eqb a.bitrate b.bitrate ≡ q → (r : Bool) → eqb a.time b.time ≡ r → (p && (q && r)) ≡ true → a ≡ b
    step true p true q true r h = same_address a.stream b.stream a.bitrate b.bitrate a.time b.time ((bytes_eq-Decides a.stream b.stream).0 p) (eqb-true a.bitrate b.bitrate q) (eqb-true a.time b.time r)
    step true p true q false r h = absurd (cc)
    step true p false q c r h = absurd (cc)
    step false p b q c r h = absurd (cc)

pub flip : (a b : Address) → is_of a b ≡ false → is_of b a ≡ false
flip a b e =
    by_bool (is_of b a) (λ t. is_of b a ≡ t → t ≡ false)
    (λ is same. absurd (
    let s : b ≡ a = is_of-same b a is in
    let one : is_of a a ≡ true = subst (λ (x : Address). is_of x a ≡ true) s is in
    let other : is_of a b ≡ true = subst (λ (x : Address). is_of a x ≡ true) (sym s) one in
    cc
    )) (λ is same. refl) refl

-- ---- waiting

waits-push : (b : Address) (ls : List Later) (x : Later) → waits b ls ≡ false → is_of b x.address ≡ false → waits b (ls ++ x ∷ []) ≡ false
waits-push b [] x w n = or_both (is_of b x.address) false n refl
waits-push b (l ∷ ls) x w n = or_both (is_of b l.address) (waits b (ls ++ x ∷ [])) (or_left (is_of b l.address) (waits b ls) w) (waits-push b ls x (or_right (is_of b l.address) (waits b ls) w) n)

waits-without : (b : Address) (n : ℕ) (ls : List Later) → waits b ls ≡ false → waits b (without n ls) ≡ false
waits-without b n [] w = w
waits-without b n (l ∷ ls) w =
    by_bool (eqb l.place n) (λ t. waits b (cond t ls (l ∷ without n ls)) ≡ false) (λ is. or_right (is_of b l.address) (waits b ls) w)
    (λ is. or_both (is_of b l.address) (waits b (without n ls)) (or_left (is_of b l.address) (waits b ls) w) (waits-without b n ls (or_right (is_of b l.address) (waits b ls) w)))

due-waits : (b : Address) (n : ℕ) (ls : List Later) (l : Later) → waits b ls ≡ false → due n ls ≡ Some l → is_of b l.address ≡ false
due-waits b n [] l w d = absurd (cc)
due-waits b n (k ∷ ls) l w d =
    by_bool (eqb k.place n) (λ t. cond t (Some k) (due n ls) ≡ Some l → is_of b l.address ≡ false)
    (λ is h. subst (λ (x : Later). is_of b x.address ≡ false) (some-same k l h) (or_left (is_of b k.address) (waits b ls) w))
    (λ is h. due-waits b n ls l (or_right (is_of b k.address) (waits b ls) w) h) d
  where
    some-same : (x y : Later) → Some x ≡ Some y → x ≡ y
    some-same x y e = cc

-- ---- open

pub open_add : (log : List Entry) (held : List Later) (n : ℕ) (a : Address) → AreOpen log held → kept_at log a ≡ None → waits a held ≡ false → AreOpen log (held ++ (record { place = n; address = a }) ∷ [])
open_add log [] n a o none w = (none, refl, tt)
open_add log (l ∷ ls) n a o none w = (
  o.0,
  waits-push l.address ls (record { place = n; address = a }) o.1 (flip a l.address (or_left (is_of a l.address) (waits a ls) w)),
  open_add log ls n a o.2 none (or_right (is_of a l.address) (waits a ls) w),
)

pub open_without : (log : List Entry) (n : ℕ) (held : List Later) → AreOpen log held → AreOpen log (without n held)
open_without log n [] o = o
open_without log n (l ∷ ls) o =
    by_bool (eqb l.place n) (λ t. AreOpen log (cond t ls (l ∷ without n ls))) (λ is. o.2) (λ is. (o.0, waits-without l.address n ls o.1, open_without log n ls o.2))

-- what is due isn't kept, and doesn't wait any more without that
pub record IsDue (log : List Entry) (n : ℕ) (held : List Later) (l : Later) : Type 0 where
  pub none : kept_at log l.address ≡ None
  pub gone : waits l.address (without n held) ≡ false
  pub place : l.place ≡ n
  pub fewer : length (without n held) < length held

pub due_open : (log : List Entry) (n : ℕ) (held : List Later) (l : Later) → AreOpen log held → due n held ≡ Some l → IsDue log n held l
due_open log n [] l o d = absurd (cc)
due_open log n (k ∷ ls) l o d =
    let r : IsDueAt (eqb k.place n) =
    by_bool (eqb k.place n) (λ t. cond t (Some k) (due n ls) ≡ Some l → IsDueAt t)
    (λ is h. subst (λ (x : Later). Here x) (some-same k l h) (o.0, o.1, eqb-true k.place n is, omega arith))
    (λ is h.
    let r = due_open log n ls l o.2 h in
    (r.none, or_both (is_of l.address k.address) (waits l.address (without n ls)) (flip k.address l.address (due-waits k.address n ls l o.1 h)) r.gone, r.place, let f = r.fewer in omega (arith, f))) d in
    record { none = r.0; gone = r.1; place = r.2; fewer = r.3 }
  where
    some-same : (x y : Later) → Some x ≡ Some y → x ≡ y
    some-same x y e = cc

    Here : Later → Type 0
    Here x = (kept_at log x.address ≡ None) × (waits x.address ls ≡ false) × (x.place ≡ n) × (length ls < length (k ∷ ls))

    IsDueAt : Bool → Type 0
    IsDueAt t = (kept_at log l.address ≡ None) × (waits l.address (cond t ls (k ∷ without n ls)) ≡ false) × (l.place ≡ n) × (length (cond t ls (k ∷ without n ls)) < length (k ∷ ls))

kept_none : (a : Address) (place : ℕ) (log : List Entry) (f : Fragment) → kept_from a place log ≡ None → is_kept_at a f ≡ false → kept_from a place (log ++ Keep f ∷ []) ≡ None
kept_none a place [] f none other = ap (λ t. cond t (Some (place, f)) None) other
kept_none a place (Declare tracks ∷ log) f none other = kept_none a (suc place) log f none other
kept_none a place (Keep g ∷ log) f none other =
    by_bool (is_kept_at a g) (λ t. cond t (Some (place, g)) (kept_from a (suc place) log) ≡ None → cond t (Some (place, g)) (kept_from a (suc place) (log ++ Keep f ∷ [])) ≡ None)
    (λ is h. absurd (cc)) (λ is h. kept_none a (suc place) log f h other) none

pub open_kept : (log : List Entry) (held : List Later) (f : Fragment) → AreOpen log held → waits (address_of f) held ≡ false → AreOpen (log ++ Keep f ∷ []) held
open_kept log [] f o w = tt
open_kept log (l ∷ ls) f o w = (
  kept_none l.address 0 log f o.0 (or_left (is_of (address_of f) l.address) (waits (address_of f) ls) w),
  o.1,
  open_kept log ls f o.2 (or_right (is_of (address_of f) l.address) (waits (address_of f) ls) w),
)

-- ---- nothing is due

pub without_none : (n : ℕ) (held : List Later) → due n held ≡ None → without n held ≡ held
without_none n [] d = refl
without_none n (l ∷ ls) d =
    by_bool (eqb l.place n) (λ t. cond t (Some l) (due n ls) ≡ None → cond t ls (l ∷ without n ls) ≡ l ∷ ls) (λ is h. absurd (cc))
    (λ is h. ap (λ (xs : List Later). l ∷ xs) (without_none n ls h)) d

pub due_add : (n m : ℕ) (a : Address) (held : List Later) → due n held ≡ None → n < m → due n (held ++ (record { place = m; address = a }) ∷ []) ≡ None
due_add n m a [] d lt = by_bool (eqb m n) (λ t. ◌≡◌ {A = Option Later} (cond t (Some (record { place = m; address = a })) None) None) (λ is. absurd (let e = eqb-true m n is in omega (arith, e, lt))) (λ is. refl)
due_add n m a (l ∷ ls) d lt =
    by_bool (eqb l.place n) (λ t. cond t (Some l) (due n ls) ≡ None → cond t (Some l) (due n (ls ++ (record { place = m; address = a }) ∷ [])) ≡ None) (λ is h. absurd (cc))
    (λ is h. due_add n m a ls h lt) d
