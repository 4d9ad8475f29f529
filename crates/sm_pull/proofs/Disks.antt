-- What is kept behind a log, one call after another.
use Rattle.std.proofs.Common.{◌≡◌, ◌⊎◌, ◌≤◌, ◌-◌, suc, length, length-append, ℕ, List, [], ◌∷◌, ◌++◌, Option, Some, None, IsSome, refl, ap, sym, ◌∙◌, subst, append_assoc, append-nil, arith, inl, inr}
use Rattle.std.specs.Prelude.{is_some}
use Rattle.sm_model.specs.declared.entry.Entry.{Entry}
use Rattle.sm_model.specs.declared.entry.Entry.TheVariants.{Keep}
use Rattle.sm_model.specs.declared.fragment.Fragment.{Fragment}
use Rattle.sm_site.specs.Image.{Image}
use Rattle.sm_site.specs.Meanings.{DiskAlone, View, Seen}
use Rattle.sm_site.specs.Clauses.{Both, Recorded, Throughout, Rose}
use Rattle.sm_site.proofs.Moments.{alone_here, alone_then, no_call, weakened, and_then}
use Rattle.sm_archive.specs.declared.archive.Archive.{Archive}
use Rattle.sm_archive.specs.Store.{IsStore}
use Rattle.sm_archive.specs.Stands.{Keeps, Stands}
use Rattle.sm_pull.specs.Adds.{keeps_of, IsFrontOf, LeavesFront, StandsWith, Adds}

-- ---- lists

some_same : {A : Type 0} (a b : Option A) → is_some b ≡ is_some a → IsSome a → IsSome b
some_same a b e told = e ∙ told

pub keeps_both : (xs ys : List Fragment) → keeps_of (xs ++ ys) ≡ keeps_of xs ++ keeps_of ys
keeps_both [] ys = refl
keeps_both (x ∷ xs) ys = ap (λ (es : List Entry). Keep x ∷ es) (keeps_both xs ys)

pub log_both : (log : List Entry) (xs ys : List Fragment) → (log ++ keeps_of xs) ++ keeps_of ys ≡ log ++ keeps_of (xs ++ ys)
log_both log xs ys = append_assoc log (keeps_of xs) (keeps_of ys) ∙ ap (λ (es : List Entry). log ++ es) (sym (keeps_both xs ys))

pub length_keeps : (xs : List Fragment) → length (keeps_of xs) ≡ length xs
length_keeps [] = refl
length_keeps (x ∷ xs) = ap suc (length_keeps xs)

-- ---- fronts

-- a front of the first of two lists is one of both
front_first : (log : List Entry) (xs ys : List Fragment) (after : List Entry) → IsFrontOf log xs after → IsFrontOf log (xs ++ ys) after
front_first log xs ys after f = record {
  front = f.front;
  back = f.back ++ ys;
  whole = ap (λ (zs : List Fragment). zs ++ ys) f.whole ∙ append_assoc f.front f.back ys;
  after_is = f.after_is;
}

-- a front of the second behind all of the first is one of both
front_second : (log : List Entry) (xs ys : List Fragment) (after : List Entry) → IsFrontOf (log ++ keeps_of xs) ys after → IsFrontOf log (xs ++ ys) after
front_second log xs ys after f = record {
  front = xs ++ f.front;
  back = f.back;
  whole = ap (λ (zs : List Fragment). xs ++ zs) f.whole ∙ sym (append_assoc xs f.front f.back);
  after_is = f.after_is ∙ log_both log xs f.front;
}

-- one that was kept, or not
one_front : (log : List Entry) (f : Fragment) (after : List Entry) → (after ≡ log) ⊎ (after ≡ log ++ Keep f ∷ []) → IsFrontOf log (f ∷ []) after
one_front log f after (inl is) = record { front = []; back = f ∷ []; whole = refl; after_is = is ∙ sym (append-nil log) }
one_front log f after (inr is) = record { front = f ∷ []; back = []; whole = refl; after_is = is }

-- ---- calls

module _ {D : Type 0} {site : Seen D} where
  -- the disk wasn't called
  pub adds_none : ((d : D) (t : ℕ) (c : Image) → site.left_at d t c → t ≤ (site.view d).moment) → (d : D) (a : Archive) (log : List Entry) → Stands a log None (site.may_leave d)
      → Adds site d d a a log [] []
  adds_none no_later d a log stands = record {
    stands = subst (λ (l : List Entry). Stands a l None (site.may_leave d)) (sym (append-nil log)) stands;
    moments = λ some. no_call site d (LeavesFront log []) (no_later d);
    contents = refl;
    disk_alone = alone_here (site.view d);
    limits = refl;
  }

  -- one call, and then another
  pub adds_then : {d e f : D} {a b c : Archive} {log : List Entry} {xs ys tried : List Fragment} → Adds site d e a b log xs [] → Adds site e f b c (log ++ keeps_of xs) ys tried
      → Adds site d f a c log (xs ++ ys) tried
  adds_then {d = d} {e = e} {f = f} {a = a} {b = b} {c = c} {log = log} {xs = xs} {ys = ys} {tried = tried} first second =
      let all : (xs ++ []) ++ (ys ++ tried) ≡ (xs ++ ys) ++ tried = ap (λ (zs : List Fragment). zs ++ (ys ++ tried)) (append-nil xs) ∙ sym (append_assoc xs ys tried) in
      record {
        stands = subst (λ (l : List Entry). StandsWith c l tried (site.may_leave f)) (log_both log xs ys) second.stands;
        moments = λ some.
            let one : Throughout site d e (LeavesFront log ((xs ++ ys) ++ tried)) =
            weakened site d e (LeavesFront log (xs ++ [])) (LeavesFront log ((xs ++ ys) ++ tried)) (first.moments some)
            (λ t c left. (left.0, left.1, subst (λ (zs : List Fragment). IsFrontOf log zs left.0) all (front_first log (xs ++ []) (ys ++ tried) left.0 left.2))) in
            let two : Throughout site e f (LeavesFront log ((xs ++ ys) ++ tried)) =
            weakened site e f (LeavesFront (log ++ keeps_of xs) (ys ++ tried)) (LeavesFront log ((xs ++ ys) ++ tried)) (second.moments (some_same _ _ first.contents some))
            (λ t c left. (left.0, left.1, subst (λ (zs : List Fragment). IsFrontOf log zs left.0) (sym (append_assoc xs ys tried)) (front_second log xs (ys ++ tried) left.0 left.2))) in
            and_then site d e f (LeavesFront log ((xs ++ ys) ++ tried)) one two;
        contents = second.contents ∙ first.contents;
        disk_alone = alone_then (site.view d) (site.view e) (site.view f) first.disk_alone second.disk_alone;
        limits = second.limits ∙ first.limits;
      }

  -- what a call of the archive leaves that was to keep this
  pub adds_kept : {d e : D} {a b : Archive} {log : List Entry} {f : Fragment} → Stands b (log ++ Keep f ∷ []) None (site.may_leave e)
      → (IsSome (site.view d).contents → Throughout site d e (λ t c. (after : List Entry) × IsStore after c × ((after ≡ log) ⊎ (after ≡ log ++ Keep f ∷ []))))
      → is_some (site.view e).contents ≡ is_some (site.view d).contents → DiskAlone (site.view d) (site.view e) → b.limits ≡ a.limits
      → Adds site d e a b log (f ∷ []) []
  adds_kept {d = d} {e = e} {log = log} {f = f} stands moments contents alone limits = record {
    stands = stands;
    moments = λ some. weakened site d e _ (LeavesFront log (f ∷ [])) (moments some) (λ t c left. (left.0, left.1, one_front log f left.0 left.2));
    contents = contents;
    disk_alone = alone;
    limits = limits;
  }

  pub adds_tried : {d e : D} {a b : Archive} {log : List Entry} {f : Fragment} → Stands b log None (site.may_leave e) ⊎ Stands b log (Some (Keep f)) (site.may_leave e)
      → (IsSome (site.view d).contents → Throughout site d e (λ t c. (after : List Entry) × IsStore after c × ((after ≡ log) ⊎ (after ≡ log ++ Keep f ∷ []))))
      → is_some (site.view e).contents ≡ is_some (site.view d).contents → DiskAlone (site.view d) (site.view e) → b.limits ≡ a.limits
      → Adds site d e a b log [] (f ∷ [])
  adds_tried {d = d} {e = e} {b = b} {log = log} {f = f} stands moments contents alone limits = record {
    stands = subst (λ (l : List Entry). StandsWith b l (f ∷ []) (site.may_leave e)) (sym (append-nil log)) stands;
    moments = λ some. weakened site d e _ (LeavesFront log (f ∷ [])) (moments some) (λ t c left. (left.0, left.1, one_front log f left.0 left.2));
    contents = contents;
    disk_alone = alone;
    limits = limits;
  }

-- contents are told after a call where they were told before
both_same : {A : Type 0} (a b : Option A) (R : A → A → Type 0) → Both a b R → is_some b ≡ is_some a
both_same None None R both = refl
both_same (Some x) (Some y) R both = refl
both_same (Some x) None R both = absurd both
both_same None (Some y) R both = absurd both

pub contents_told : (old new : View) → Recorded old new → is_some old.calls ≡ is_some old.contents → is_some new.calls ≡ is_some new.contents → is_some new.contents ≡ is_some old.contents
contents_told old new recorded before after = sym after ∙ both_same old.calls new.calls _ recorded ∙ before

-- a count that rose from a later value
pub rose_since : (a b c : ℕ) → a ≤ b → Rose b c → Rose a c
rose_since a b c le rose = record {
  later = let l = rose.later in omega (arith, le, l);
  rose = λ not. let r = rose.rose not in omega (arith, le, r);
}

-- ---- how many were kept

-- whatever is in doubt, the archive's length is that of the log
length_with : (a : Archive) (log : List Entry) (tried : List Fragment) (outcomes : Image → Type 0) (after : ℕ)
    → ((bodies : List (List ℕ)) (body : Option (List ℕ)) (l : List Entry) (doubt : Option Entry) → Keeps a bodies body l doubt → after ≡ length l) → StandsWith a log tried outcomes → after ≡ length log
length_with a log [] outcomes after says s = says s.bodies s.body log None s.keeps
length_with a log (f ∷ fs) outcomes after says (inl s) = says s.bodies s.body log None s.keeps
length_with a log (f ∷ fs) outcomes after says (inr s) = says s.bodies s.body log (Some (Keep f)) s.keeps

pub kept_count : (a : Archive) (log : List Entry) (added tried : List Fragment) (outcomes : Image → Type 0) (before after n : ℕ) → before ≡ length log
    → ((bodies : List (List ℕ)) (body : Option (List ℕ)) (l : List Entry) (doubt : Option Entry) → Keeps a bodies body l doubt → after ≡ length l)
    → StandsWith a (log ++ keeps_of added) tried outcomes → n ≡ after - before → n ≡ length added
kept_count a log added tried outcomes before after n was says s is =
    let now = length_with a (log ++ keeps_of added) tried outcomes after says s in
    let both = length-append log (keeps_of added) in
    let same = length_keeps added in
    omega (arith, was, now, both, same, is)
