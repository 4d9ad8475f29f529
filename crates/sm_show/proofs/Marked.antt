-- Marks, and what belongs to a longer log.
use Rattle.std.proofs.Common.{◌≡◌, ◌+◌, ◌↔◌, ℕ, List, [], ◌∷◌, ◌++◌, length, get_or, sum_by, le_refl, refl, sym, ap, subst, ◌∙◌, arith}
use Rattle.std.proofs.lemmas.List.{length-append}
use Rattle.std.proofs.Math.Seq.{take-length}
use Rattle.std.proofs.lemmas.List.Sums.{sum_by-append}
use Rattle.sm_model.specs.declared.entry.Entry.{Entry}
use Rattle.sm_log.specs.Digests.{Digest, digest_of}
use Rattle.sm_site.specs.Meanings.{Deal}
use Rattle.sm_site.specs.Clauses.{Rose}
use Rattle.sm_serve.specs.Connections.{deals_in}
use Rattle.sm_serve.specs.Standing.{History}
use Rattle.sm_serve.specs.Serving.{Since}
use Rattle.sm_shelf.specs.Past.{Publishing, all_at, last_of}
use Rattle.sm_shelf.specs.Shelf.{Desk, Belongs, IsFront}
use Rattle.sm_shelf.proofs.Heights.{front_later, of_later}
use Rattle.sm_show.specs.declared.outcome.Up.{Up}
use Rattle.sm_show.specs.declared.outcome.Up.TheVariants.{Whole, Behind}
use Rattle.sm_show.specs.Marks.{Mark, IsMark, Follow, AreCounted, InOrder, Shows, behind_by, past_after, short_by, shown_after, told_at}
use Rattle.sm_show.specs.Recalling.{Publishes}

pub belongs_later : (log more now : List Entry) (desk : Desk) → now ≡ log ++ more → Belongs log desk → Belongs now desk
belongs_later log more now desk is belongs =
    subst (λ (l : List Entry). Belongs l desk) (sym is) (front_later log more desk.published belongs.0, λ k op lt. of_later log more (get_or desk.pending k op) (belongs.1 k op lt))

pub all_of : (log : List Entry) (d : Digest) → d ≡ digest_of log → IsFront log d
all_of log d is = (length log, le_refl (length log), is ∙ ap digest_of (sym (take-length log)))

follow_more : (from mid : History) (ms : List Mark) (m : Mark) → Follow from ms mid → Since mid m.turned
    → (deal : Deal) × (deals_in m.turned.items ≡ deals_in mid.items ++ deal ∷ []) → IsMark m → Follow from (ms ++ m ∷ []) m.behind
follow_more from mid [] m here since took is =
    (subst (λ (h : History). Since h m.turned) here since, subst (λ (h : History). (deal : Deal) × (deals_in m.turned.items ≡ deals_in h.items ++ deal ∷ [])) here took, is, refl)
follow_more from mid (x ∷ ms) m on since took is = (on.0, on.1, on.2, follow_more x.behind mid ms m on.3 since took is)

unfoldable pub none_counted : (h : History) → AreCounted h h 0 0 0
none_counted h = record { marks = []; many = refl; follow = refl; behind_is = refl; short_is = refl }

-- what is shown behind one more is in order
order_more : (before : Digest) (ms : List Mark) (m : Mark) → InOrder before ms → m.shown ≡ last_of (shown_after before ms) m.added → InOrder before (ms ++ m ∷ [])
order_more before [] m on is = (is, tt)
order_more before (x ∷ ms) m on is = (on.0, order_more x.shown ms m on.1 is)

-- what was published up to it
past_more : (past : List Publishing) (ms : List Mark) (m : Mark) → past_after past (ms ++ m ∷ []) ≡ past_after past ms ++ all_at (told_at m.turned) m.added
past_more past [] m = refl
past_more past (x ∷ ms) m = past_more (past ++ all_at (told_at x.turned) x.added) ms m

-- what was published behind the last one
shown_last : (before : Digest) (ms : List Mark) (m : Mark) → m.shown ≡ shown_after before (ms ++ m ∷ [])
shown_last before [] m = refl
shown_last before (x ∷ ms) m = shown_last x.shown ms m

unfoldable one_counted : (from mid : History) (turns turns' behind behind' short short' : ℕ) (m : Mark) → Since mid m.turned → (deal : Deal) × (deals_in m.turned.items ≡ deals_in mid.items ++ deal ∷ [])
    → IsMark m → turns' ≡ turns + 1 → behind' ≡ behind + behind_by m.up → short' ≡ short + short_by m.up → AreCounted from mid turns behind short
    → AreCounted from m.behind turns' behind' short'
one_counted from mid turns turns' behind behind' short short' m since took is t b s c =
    let long = length-append c.marks (m ∷ []) in
    let bs = sum_by-append (λ (n : Mark). behind_by n.up) c.marks (m ∷ []) in
    let ss = sum_by-append (λ (n : Mark). short_by n.up) c.marks (m ∷ []) in
    let b1 : sum_by (λ (n : Mark). behind_by n.up) (m ∷ []) ≡ behind_by m.up = omega arith in
    let s1 : sum_by (λ (n : Mark). short_by n.up) (m ∷ []) ≡ short_by m.up = omega arith in
    record {
      marks = c.marks ++ m ∷ [];
      many = omega (arith, long, c.many, t);
      follow = follow_more from mid c.marks m c.follow since took is;
      behind_is = omega (arith, bs, b1, c.behind_is, b);
      short_is = omega (arith, ss, s1, c.short_is, s);
    }

-- a turn and its publishing
pub shows_more : (h k turned behind : History) (t t' b b' s s' : ℕ) (before desk desk' : Desk) (up : Up) → Shows h k t b s before desk → Since k turned
    → (deal : Deal) × (deals_in turned.items ≡ deals_in k.items ++ deal ∷ []) → Since turned behind → behind.items ≡ turned.items → Publishes (told_at turned) desk desk'
    → behind.point.machine.log ≡ turned.point.machine.log → Belongs turned.point.machine.log desk' → (up ≡ Whole) ↔ (desk'.published ≡ digest_of turned.point.machine.log)
    → (up ≡ Behind → Rose turned.point.faults behind.point.faults) → t' ≡ t + 1 → b' ≡ b + behind_by up → s' ≡ s + short_by up → Shows h behind t' b' s' before desk'
unfolding one_counted
shows_more h k turned behind t t' b b' s s' before desk desk' up shows since took on same more log belongs whole blamed ts bs ss =
    let m : Mark = record { turned = turned; behind = behind; added = more.digests; shown = desk'.published; up = up } in
    let now : Belongs behind.point.machine.log desk' = subst (λ (l : List Entry). Belongs l desk') (sym log) belongs in
    let is : IsMark m = record {
      since = on;
      same = same;
      log = log;
      front = now.0;
      whole = subst (λ (l : List Entry). (up ≡ Whole) ↔ (desk'.published ≡ digest_of l)) (sym log) whole;
      blamed = blamed;
    } in
    record {
      begun = shows.begun;
      since = shows.since;
      same = shows.same;
      log = shows.log;
      added = shows.added;
      first = shows.first;
      first_is = shows.first_is;
      front = shows.front;
      counted = one_counted shows.begun k t t' b b' s s' m since took is ts bs ss shows.counted;
      in_order = order_more shows.first shows.counted.marks m shows.in_order (more.last ∙ ap (λ (d : Digest). last_of d more.digests) shows.last_is);
      last_is = shown_last shows.first shows.counted.marks m;
      past = more.past ∙ ap (λ (l : List Publishing). l ++ all_at (told_at turned) more.digests) shows.past
          ∙ sym (past_more (before.past ++ all_at (told_at h) shows.added) shows.counted.marks m);
      belongs = now;
    }

-- before the first event
pub shows_none : (h begun : History) (before desk : Desk) → Since h begun → begun.items ≡ h.items → Publishes (told_at h) before desk → begun.point.machine.log ≡ h.point.machine.log
    → Belongs h.point.machine.log desk → Shows h begun 0 0 0 before desk
unfolding none_counted
shows_none h begun before desk since same more log belongs =
    let now : Belongs begun.point.machine.log desk = subst (λ (l : List Entry). Belongs l desk) (sym log) belongs in
    record {
      begun = begun;
      since = since;
      same = same;
      log = log;
      added = more.digests;
      first = desk.published;
      first_is = more.last;
      front = now.0;
      counted = none_counted begun;
      in_order = tt;
      last_is = refl;
      past = more.past;
      belongs = now;
    }
