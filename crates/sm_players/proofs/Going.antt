-- Entries of a transcript, joined.
use Rattle.std.proofs.Common.{◌≡◌, ◌<◌, ◌≤◌, ℕ, Bool, true, false, if◌then◌else◌, List, [], ◌∷◌, ◌++◌, Option, Some, None, IfSome, IsTrue, refl, sym, ◌∙◌, ap, subst, append_assoc, arith}
use Rattle.std.specs.Prelude.{map}
use Rattle.std.proofs.lemmas.List.{map-append, append-nil}
use Rattle.std.proofs.lemmas.Bool.{ne_eqb}
use Rattle.sm_site.specs.Meanings.{View, Deal, Item, IsLive}
use Rattle.sm_site.specs.Meanings.Deal.{Sent, Shut}
use Rattle.sm_site.specs.Clauses.{Both, Adds}
use Rattle.sm_site.proofs.Transcripts.{stays_live}
use Rattle.sm_players.specs.Asking.{Asking, behind}
use Rattle.sm_players.specs.Telling.{Goes, LeavesBoth, StaysBeside}

-- ---- the transcript goes on

pub goes_nil : (a : Option (List Item)) → Goes a a []
goes_nil None = tt
goes_nil (Some x) = ([], sym (append-nil x), refl)

pub goes_same : (a b : Option (List Item)) → b ≡ a → Goes a b []
goes_same a b same = subst (λ (o : Option (List Item)). Goes a o []) (sym same) (goes_nil a)

pub goes_one : (v w : View) (deal : Deal) → Adds deal v w → Goes v.transcript w.transcript (deal ∷ [])
goes_one v w deal adds = go v.transcript w.transcript adds
  where
    go : (a b : Option (List Item)) → Both a b (λ before now. (m : ℕ) × (v.moment < m) × (m ≤ w.moment) × (now ≡ before ++ (record { moment = m; deal = deal }) ∷ [])) → Goes a b (deal ∷ [])
    go None None both = tt
    go None (Some y) both = absurd both
    go (Some x) None both = absurd both
    go (Some x) (Some y) (m, lt, le, on) = ((record { moment = m; deal = deal }) ∷ [], on, refl)

pub goes_then : (a b c : Option (List Item)) (ds es : List Deal) → Goes a b ds → Goes b c es → Goes a c (ds ++ es)
goes_then None None None ds es one two = tt
goes_then None None (Some z) ds es one two = absurd two
goes_then None (Some y) c ds es one two = absurd one
goes_then (Some x) None c ds es one two = absurd one
goes_then (Some x) (Some y) None ds es one two = absurd two
goes_then (Some x) (Some y) (Some z) ds es (xs, on, are) (ys, on', are') = (
  xs ++ ys,
  on' ∙ ap (λ (l : List Item). l ++ ys) on ∙ append_assoc x xs ys,
  map-append (λ (e : Item). e.deal) xs ys ∙ ap (λ (l : List Deal). l ++ map (λ (e : Item). e.deal) ys) are ∙ ap (λ (l : List Deal). ds ++ l) are',
)

-- ---- what the loop is asked

pub behind_nil : (a : Option (List Asking)) → a ≡ behind a []
behind_nil None = refl
behind_nil (Some x) = ap (λ (l : List Asking). Some l) (sym (append-nil x))

pub behind_then : (a b c : Option (List Asking)) (xs ys : List Asking) → b ≡ behind a xs → c ≡ behind b ys → c ≡ behind a (xs ++ ys)
behind_then a b c xs ys one two = two ∙ ap (λ (o : Option (List Asking)). behind o ys) one ∙ go a
  where
    go : (o : Option (List Asking)) → behind (behind o xs) ys ≡ behind o (xs ++ ys)
    go None = refl
    go (Some l) = ap (λ (k : List Asking). Some k) (append_assoc l xs ys)

-- ---- the other connections

pub beside_then : (n : ℕ) (a b c : Option (List Item)) → StaysBeside n a b → StaysBeside n b c → StaysBeside n a c
beside_then n a b c one two m other live = two m other (one m other live)

-- a turn behind one that left this connection open
pub leaves_then : (n : ℕ) (open_ : Bool) (u v w : View) (i j k : ℕ) → LeavesBoth n true u v i j → LeavesBoth n open_ v w j k → LeavesBoth n open_ u w i k
leaves_then n open_ u v w i j k one two = record {
  wire = record {
    live = two.wire.live;
    others = beside_then n u.transcript v.transcript w.transcript one.wire.others two.wire.others;
    link_faults = two.wire.link_faults ∙ one.wire.link_faults;
  };
  later = omega (arith, one.later, two.later);
}

pub beside_same : (n : ℕ) (a b : Option (List Item)) → b ≡ a → StaysBeside n a b
beside_same n a b same m other live = subst (λ (o : Option (List Item)). IfSome o (IsLive m)) (sym same) live

-- what is sent closes none
pub sent_beside : (v w : View) (n : ℕ) (bytes : List ℕ) (failed : Bool) → Adds (Sent n bytes failed) v w → StaysBeside n v.transcript w.transcript
sent_beside v w n bytes failed adds m other live = stays_live v w m (Sent n bytes failed) (λ was t. t) live adds

pub sent_live : (v w : View) (n : ℕ) (bytes : List ℕ) (failed : Bool) → IfSome v.transcript (IsLive n) → Adds (Sent n bytes failed) v w → IfSome w.transcript (IsLive n)
sent_live v w n bytes failed live adds = stays_live v w n (Sent n bytes failed) (λ was t. t) live adds

-- a connection that is closed is one
pub shut_beside : (v w : View) (n : ℕ) → Adds (Shut n) v w → StaysBeside n v.transcript w.transcript
shut_beside v w n adds m other live =
    stays_live v w m (Shut n) (λ was t. subst (λ (b : Bool). IsTrue (if b then false else was)) (sym (ne_eqb n m (λ e. other (sym e)))) t) live adds
