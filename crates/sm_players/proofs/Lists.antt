-- The live connections as a list.
use Rattle.std.proofs.Common.{◌≡◌, ◌≢◌, inl, inr, ℕ, zero, suc, ◌<◌, Bool, true, false, ◌==◌, if◌then◌else◌, List, [], ◌∷◌, ◌++◌, length, get_or, refl, sym, ◌∙◌, ap, subst, arith}
use Rattle.std.specs.Prelude.{slice_set, All}
use Rattle.std.specs.List.{remove, AllByRecursion}
use Rattle.std.proofs.lemmas.List.Elements.{recursion_from_All}
use Rattle.std.proofs.lemmas.Bool.{ne_eqb}
use Rattle.std.proofs.lemmas.Bool.Decides.{eqb_tells}
use Rattle.sm_site.specs.Meanings.{Item, Deal, IsLive, open_after, open_from}
use Rattle.sm_site.specs.Meanings.Deal.{Began, Came, Left, Over, Sent, Shut}
use Rattle.sm_site.specs.Event.{IsBelow}
use Rattle.sm_players.specs.declared.live.Live.{Live}
use Rattle.sm_players.specs.Open.{Known, IsApart, AreOpen, AreOpenBut, IsKnown, AreKnown, numbers_of, IsNone}

-- ---- numbers

pub as_many : (ls : List Live) → length (numbers_of ls) ≡ length ls
as_many [] = refl
as_many (l ∷ ls) = ap suc (as_many ls)

pub number_at : (ls : List Live) (i : ℕ) (x : Live) → i < length ls → x ≡ get_or ls i x → get_or (numbers_of ls) i 0 ≡ x.number
number_at [] i x within is = absurd (omega arith)
number_at (l ∷ ls) zero x within is = ap (λ (y : Live). y.number) (sym is)
number_at (l ∷ ls) (suc i) x within is = number_at ls i x (omega arith) is

pub apart_none : (ls : List Live) (n : ℕ) → ((k : ℕ) → k < length ls → get_or (numbers_of ls) k 0 ≡ n → ⊥) → IsApart n ls
apart_none [] n none = tt
apart_none (l ∷ ls) n none = (none 0 (omega arith), apart_none ls n (λ k within. none (suc k) (omega arith)))

pub known_many : (ks : List Known) (ls : List Live) → AreKnown ks ls → length ks ≡ length ls
known_many [] [] known = refl
known_many [] (l ∷ ls) known = absurd known
known_many (k ∷ ks) [] known = absurd known
known_many (k ∷ ks) (l ∷ ls) known = ap suc (known_many ks ls known.1)

pub none_known : (n : ℕ) (ks : List Known) (ls : List Live) → AreKnown ks ls → IsApart n ls → IsNone n ks
none_known n [] ls known apart = tt
none_known n (k ∷ ks) [] known apart = absurd known
none_known n (k ∷ ks) (l ∷ ls) known apart = (λ e. apart.0 (sym known.0.number_is ∙ e), none_known n ks ls known.1 apart.1)

-- ---- one of them

-- the connection at an index, with what is known of it; and what is known where it is another, or is gone
pub record IsAt (ks : List Known) (ls : List Live) (i : ℕ) (x : Live) : Type 0 where
  pub front : List Known
  pub back : List Known
  pub one : Known
  pub is : ks ≡ front ++ one ∷ back
  pub known : IsKnown one x
  pub set : (k : Known) (y : Live) → IsKnown k y → AreKnown (front ++ k ∷ back) (slice_set ls i y)
  pub gone : AreKnown (front ++ back) (remove ls i)

pub known_at : (ks : List Known) (ls : List Live) (i : ℕ) (x : Live) → AreKnown ks ls → i < length ls → x ≡ get_or ls i x → IsAt ks ls i x
known_at ks [] i x known within is = absurd (omega arith)
known_at [] (l ∷ ls) i x known within is = absurd known
known_at (k ∷ ks) (l ∷ ls) zero x known within is = record {
  front = [];
  back = ks;
  one = k;
  is = refl;
  known = subst (λ (y : Live). IsKnown k y) (sym is) known.0;
  set = λ j y new. (new, known.1);
  gone = known.1;
}
known_at (k ∷ ks) (l ∷ ls) (suc i) x known within is =
    let at = known_at ks ls i x known.1 (omega arith) is in
    record {
      front = k ∷ at.front;
      back = at.back;
      one = at.one;
      is = ap (λ (js : List Known). k ∷ js) at.is;
      known = at.known;
      set = λ j y new. (known.0, at.set j y new);
      gone = (known.0, at.gone);
    }

pub known_push : (ks : List Known) (ls : List Live) (k : Known) (x : Live) → AreKnown ks ls → IsKnown k x → AreKnown (ks ++ k ∷ []) (ls ++ x ∷ [])
known_push [] [] k x known new = (new, tt)
known_push [] (l ∷ ls) k x known new = absurd known
known_push (j ∷ ks) [] k x known new = absurd known
known_push (j ∷ ks) (l ∷ ls) k x known new = (known.0, known_push ks ls k x known.1 new)

pub remove_set : (ls : List Live) (i : ℕ) (x : Live) → remove (slice_set ls i x) i ≡ remove ls i
remove_set [] i x = refl
remove_set (l ∷ ls) zero x = refl
remove_set (l ∷ ls) (suc i) x = ap (λ (ks : List Live). l ∷ ks) (remove_set ls i x)

-- ---- which are open

-- all but one stay open where the others do
pub but_of : (n : ℕ) (was now : List Item) (ls : List Live) → ((m : ℕ) → m ≢ n → IsLive m was → IsLive m now) → AreOpen was ls → AreOpenBut n now ls
but_of n was now [] stays open_ = tt
but_of n was now (l ∷ ls) stays open_ = (λ other. stays l.number other open_.0, open_.1, but_of n was now ls stays open_.2)

pub all_of : (was now : List Item) (ls : List Live) → ((m : ℕ) → IsLive m was → IsLive m now) → AreOpen was ls → AreOpen now ls
all_of was now [] stays open_ = tt
all_of was now (l ∷ ls) stays open_ = (stays l.number open_.0, open_.1, all_of was now ls stays open_.2)

-- one of them is open
pub live_at : (items : List Item) (ls : List Live) (i : ℕ) (x : Live) → i < length ls → x ≡ get_or ls i x → AreOpen items ls → IsLive x.number items
live_at items [] i x within is open_ = absurd (omega arith)
live_at items (l ∷ ls) zero x within is open_ = subst (λ (y : Live). IsLive y.number items) (sym is) open_.0
live_at items (l ∷ ls) (suc i) x within is open_ = live_at items ls i x (omega arith) is open_.2

-- all where the one is open too
pub whole : (n : ℕ) (items : List Item) (ls : List Live) → IsLive n items → AreOpenBut n items ls → AreOpen items ls
whole n items [] live but = tt
whole n items (l ∷ ls) live but = (
  elim (eqb_tells l.number n) [
    | inl same ↦ subst (λ (m : ℕ). IsLive m items) (sym same.1) live
    | inr other ↦ but.0 other.1
  ],
  but.1,
  whole n items ls live but.2,
)

-- all where it is none of them
pub none_but : (n : ℕ) (items : List Item) (ls : List Live) → IsApart n ls → AreOpenBut n items ls → AreOpen items ls
none_but n items [] apart but = tt
none_but n items (l ∷ ls) apart but = (but.0 apart.0, but.1, none_but n items ls apart.1 but.2)

apart_gone : (n : ℕ) (ls : List Live) (i : ℕ) → i < length ls → IsApart n ls → IsApart n (remove ls i)
apart_gone n [] i within apart = absurd (omega arith)
apart_gone n (l ∷ ls) zero within apart = apart.1
apart_gone n (l ∷ ls) (suc i) within apart = (apart.0, apart_gone n ls i (omega arith) apart.1)

apart_at : (n : ℕ) (ls : List Live) (i : ℕ) → IsApart n ls → i < length ls → get_or (numbers_of ls) i 0 ≢ n
apart_at n [] i apart within = absurd (omega arith)
apart_at n (l ∷ ls) zero apart within = apart.0
apart_at n (l ∷ ls) (suc i) apart within = apart_at n ls i apart.1 (omega arith)

-- the rest where it is out
pub gone_open : (n : ℕ) (items : List Item) (ls : List Live) (i : ℕ) → i < length ls → get_or (numbers_of ls) i 0 ≡ n → AreOpenBut n items ls → AreOpen items (remove ls i)
gone_open n items [] i within is but = absurd (omega arith)
gone_open n items (l ∷ ls) zero within is but = none_but n items ls (subst (λ (m : ℕ). IsApart m ls) is but.1) but.2
gone_open n items (l ∷ ls) (suc i) within is but = (
  but.0 (λ e. apart_at l.number ls i but.1 (omega arith) (is ∙ sym e)),
  apart_gone l.number ls i (omega arith) but.1,
  gone_open n items ls i (omega arith) is but.2,
)

apart_set : (n : ℕ) (ls : List Live) (i : ℕ) (x : Live) → i < length ls → x.number ≡ get_or (numbers_of ls) i 0 → IsApart n ls → IsApart n (slice_set ls i x)
apart_set n [] i x within is apart = absurd (omega arith)
apart_set n (l ∷ ls) zero x within is apart = (λ e. apart.0 (sym is ∙ e), apart.1)
apart_set n (l ∷ ls) (suc i) x within is apart = (apart.0, apart_set n ls i x (omega arith) is apart.1)

-- another connection of the same number in its place
pub set_open : (items : List Item) (ls : List Live) (i : ℕ) (x : Live) → i < length ls → x.number ≡ get_or (numbers_of ls) i 0 → AreOpen items ls → AreOpen items (slice_set ls i x)
set_open items [] i x within is open_ = absurd (omega arith)
set_open items (l ∷ ls) zero x within is open_ =
    (subst (λ (m : ℕ). IsLive m items) (sym is) open_.0, subst (λ (m : ℕ). IsApart m ls) (sym is) open_.1, open_.2)
set_open items (l ∷ ls) (suc i) x within is open_ =
    (open_.0, apart_set l.number ls i x (omega arith) is open_.1, set_open items ls i x (omega arith) is open_.2)

apart_push : (n : ℕ) (ls : List Live) (x : Live) → IsApart n ls → x.number ≢ n → IsApart n (ls ++ x ∷ [])
apart_push n [] x apart other = (other, tt)
apart_push n (l ∷ ls) x apart other = (apart.0, apart_push n ls x apart.1 other)

-- a new one behind them
pub push_open : (items : List Item) (ls : List Live) (x : Live) → AreOpen items ls → IsLive x.number items → IsApart x.number ls → AreOpen items (ls ++ x ∷ [])
push_open items [] x open_ live apart = (live, tt, tt)
push_open items (l ∷ ls) x open_ live apart =
    (open_.0, apart_push l.number ls x open_.1 (λ e. apart.0 (sym e)), push_open items ls x open_.2 live apart.1)

-- ---- a number above all before is none of those that are open

closed_still : (n k : ℕ) (was : Bool) → was ≡ false → (if k == n then false else was) ≡ false
closed_still n k was none = elim (k == n) as (λ b. (if b then false else was) ≡ false) [ true ↦ refl | false ↦ none ]

below_after : (n : ℕ) (was : Bool) (deal : Deal) → IsBelow n deal → was ≡ false → open_after was n deal ≡ false
below_after n was (Began k) below none = ap (λ (b : Bool). if b then true else was) (ne_eqb k n (λ e. omega (arith, e, below))) ∙ none
below_after n was (Came k bytes) below none = none
below_after n was (Left k) below none = closed_still n k was none
below_after n was Over below none = none
below_after n was (Sent k bytes failed) below none = none
below_after n was (Shut k) below none = closed_still n k was none

below_from : (n : ℕ) (was : Bool) (items : List Item) → AllByRecursion (λ item. IsBelow n item.deal) items → was ≡ false → open_from was n items ≡ false
below_from n was [] all none = none
below_from n was (item ∷ items) all none = below_from n (open_after was n item.deal) items all.1 (below_after n was item.deal all.0 none)

pub fresh : (n : ℕ) (items : List Item) → All (λ item. IsBelow n item.deal) items → IsLive n items → ⊥
fresh n items all live =
    let no : open_from false n items ≡ false = below_from n false items (recursion_from_All (λ item. IsBelow n item.deal) items all) refl in
    absurd (let both : true ≡ false = sym live ∙ no in cc)

pub fresh_apart : (n : ℕ) (items : List Item) (ls : List Live) → All (λ item. IsBelow n item.deal) items → AreOpen items ls → IsApart n ls
fresh_apart n items [] all open_ = tt
fresh_apart n items (l ∷ ls) all open_ = (λ e. fresh n items all (subst (λ (m : ℕ). IsLive m items) e open_.0), fresh_apart n items ls all open_.2)
