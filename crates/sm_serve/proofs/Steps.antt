-- What steps on a connection leave, put together.
use Rattle.std.proofs.Common.{◌≡◌, ◌∙◌, ℕ, IsSome, is_some, refl, sym, subst}
use Rattle.sm_site.specs.Image.{Image}
use Rattle.sm_site.specs.Meanings.{Seen}
use Rattle.sm_site.specs.Clauses.{AreOne, LinkAlone, NoMore}
use Rattle.sm_site.proofs.Views.{same_here}
use Rattle.sm_origin.specs.declared.origin.Origin.{Origin}
use Rattle.sm_origin.specs.Machine.{Machine}
use Rattle.sm_serve.specs.declared.handler.Handler.{Handler}
use Rattle.sm_serve.specs.declared.live.Live.{Live}
use Rattle.sm_serve.specs.declared.still.Still.{Still}
use Rattle.sm_serve.specs.declared.still.Still.TheVariants.{Open, Closed}
use Rattle.sm_serve.specs.Resting.{SameBut, SameConn}
use Rattle.sm_serve.specs.Standing.{StandsOn}
use Rattle.sm_serve.specs.Steps.{IsLiveOn, MayAct, OnlySent, Leaves}
use Rattle.sm_serve.proofs.Between.{none_taken, none_then, none_of_link}
use Rattle.sm_serve.proofs.Sending.{contents_here}

pub not_open : Closed ≡ Open → ⊥
not_open e = cc

-- ---- connections

-- what stays the same over two steps where it does over each, and so does the number
pub record Lasts (Same : Live → Live → Type 0) : Type 0 where
  pub then : (a b c : Live) → Same a b → Same b c → Same a c
  pub number : (a b : Live) → Same a b → b.number ≡ a.number

pub conn_lasts : Lasts SameConn
conn_lasts = record {
  then = λ a b c one two. record { number = two.number ∙ one.number; conn = two.conn ∙ one.conn };
  number = λ a b same. same.number;
}

pub but_lasts : Lasts SameBut
but_lasts = record {
  then = λ a b c one two. record { number = two.number ∙ one.number; conn = two.conn ∙ one.conn; push = two.push ∙ one.push };
  number = λ a b same. same.number;
}

-- ---- calls of the link

module _ {D : Type 0} (site link : Seen D) (one : AreOne site link) (told : (s : D) (t : ℕ) (image : Image) → site.left_at s t image → IsSome (site.view s).contents)
    (fewer : (m : Machine) (o : Origin) (old new : D) → StandsOn site m o old → (site.view new).contents ≡ (site.view old).contents
    → NoMore (site.may_leave old) (site.may_leave new) → StandsOn site m o new) where
  pub sent_call : (d e : D) → LinkAlone link d e → is_some (link.view e).transcript ≡ is_some (link.view d).transcript → (link.view e).link_faults ≡ (link.view d).link_faults
      → (link.view e).script ≡ (link.view d).script → OnlySent site d e
  sent_call d e call still faults script =
      let same = same_here site link one d e call.crash in
      let contents = contents_here site link one told d e call in
      record {
        stands = λ m o stands. fewer m o d e stands contents (λ image left. (same image).0 left);
        same = same;
        contents = contents;
        link = none_of_link site link one d e still faults script call.disk;
      }

module _ {D : Type 0} (site : Seen D) where
  pub none_sent : (d : D) → OnlySent site d d
  none_sent d = record { stands = λ m o stands. stands; same = λ image. (λ left. left, λ left. left); contents = refl; link = none_taken (site.view d) }

  pub sent_then : (d e f : D) → OnlySent site d e → OnlySent site e f → OnlySent site d f
  sent_then d e f first second = record {
    stands = λ m o stands. second.stands m o (first.stands m o stands);
    same = λ image. (λ left. (first.same image).0 ((second.same image).0 left), λ left. (second.same image).1 ((first.same image).1 left));
    contents = second.contents ∙ first.contents;
    link = none_then (site.view d) (site.view e) (site.view f) first.link second.link;
  }

  -- ---- steps

  -- the connection is another, and nothing else was done
  abbrev pub with_live : Handler D → Live → Handler D
  with_live old live = record old { live = record old.live { now = live } }

  pub here_leaves : (Same : Live → Live → Type 0) (old : Handler D) (live : Live) (r : Still) → Same old.live.now live → MayAct site old
      → Leaves site Same old (with_live old live) r
  here_leaves Same old live r same may = record {
    borrows = record { site = refl; origin = refl; live = refl };
    stands = may.stands;
    live = λ open_. may.live;
    same = same;
    link = none_taken (site.view old.site.now);
  }

  -- something was sent, and the connection may be another
  abbrev pub with_site : Handler D → Live → D → Handler D
  with_site old live e = record (with_live old live) { site = record old.site { now = e } }

  pub sent_leaves : (old : Handler D) (live : Live) (e : D) (r : Still) → SameConn old.live.now live → MayAct site old → OnlySent site old.site.now e
      → (r ≡ Open → IsLiveOn site old.live.now.number e) → Leaves site SameConn old (with_site old live e) r
  sent_leaves old live e r same may sent is_live = record {
    borrows = record { site = refl; origin = refl; live = refl };
    stands = (may.stands.0, sent.stands may.stands.0 old.origin.now may.stands.1);
    live = is_live;
    same = same;
    link = sent.link;
  }

  -- it was closed behind that
  pub shut_leaves : (old : Handler D) (live : Live) (e : D) (r : Still) → SameConn old.live.now live → MayAct site old → OnlySent site old.site.now e → r ≡ Closed
      → Leaves site SameConn old (with_site old live e) r
  shut_leaves old live e r same may sent closed = sent_leaves old live e r same may sent (λ open_. absurd (not_open (sym closed ∙ open_)))

  -- where more may differ
  pub less_same : {old new : Handler D} {r : Still} → Leaves site SameBut old new r → Leaves site SameConn old new r
  less_same l = record { borrows = l.borrows; stands = l.stands; live = l.live; same = record { number = l.same.number; conn = l.same.conn }; link = l.link }

  -- a step behind a step
  pub both_leave : {Same : Live → Live → Type 0} {old mid new : Handler D} {r s : Still} → Lasts Same → Leaves site Same old mid r → Leaves site Same mid new s
      → Leaves site Same old new s
  both_leave {old = old} {mid} {new} lasts first second = record {
    borrows = record {
      site = second.borrows.site ∙ first.borrows.site;
      origin = second.borrows.origin ∙ first.borrows.origin;
      live = second.borrows.live ∙ first.borrows.live;
    };
    stands = second.stands;
    live = λ open_. subst (λ (n : ℕ). IsLiveOn site n new.site.now) (lasts.number old.live.now mid.live.now first.same) (second.live open_);
    same = lasts.then old.live.now mid.live.now new.live.now first.same second.same;
    link = none_then (site.view old.site.now) (site.view mid.site.now) (site.view new.site.now) first.link second.link;
  }

  -- a step behind a change of the push that is open
  pub behind_push : (old : Handler D) (live : Live) {new : Handler D} {r : Still} → SameConn old.live.now live → MayAct site old
      → Leaves site SameConn (with_live old live) new r → Leaves site SameConn old new r
  behind_push old live same may l = both_leave conn_lasts (here_leaves SameConn old live Open same may) l

  -- one more may be taken behind a step that leaves the connection open
  pub may_still : {Same : Live → Live → Type 0} {old new : Handler D} → Lasts Same → Leaves site Same old new Open → MayAct site new
  may_still {old = old} {new} lasts l = record {
    stands = l.stands;
    live = subst (λ (n : ℕ). IsLiveOn site n new.site.now) (sym (lasts.number old.live.now new.live.now l.same)) (l.live refl);
  }
