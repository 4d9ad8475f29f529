use Rattle.std.proofs.Common.{◌≡◌, ◌≤◌, ◌<◌, ℕ, List, length, get_or, set, None, sym, ap, subst, ◌∙◌, ◌⊎◌, inl, inr, arith}
use Rattle.sm_log.specs.declared.verdict.Decision.TheVariants.{New, There}
use Rattle.sm_log.specs.Times.{entry_at, with_entry, decision, overlapped_end, AreSorted}
use Rattle.sm_timeline.specs.Places.{place_in}
use Rattle.sm_timeline.specs.Lines.{Line, counted, more}
use Rattle.sm_log.proofs.Entries.{stays}
use Rattle.sm_timeline.proofs.Sorted.{put_in}
use Rattle.sm_log.proofs.Apart.{sorted_times}
use Rattle.sm_log.proofs.Added.{there_means, new_means, apart_with}
use Rattle.sm_timeline.proofs.Counts.{counted_there, counted_absent, as_many_counted, count_after}
use Rattle.sm_timeline.proofs.timeline.Timeline.add.Goals as goal

pub find-requires : goal.find-requires
find-requires c = rw c.as_slice.ensures (sorted_times _ c.self.invariant.apart)

-- what is decided where no time starts there
is_new : (xs : List (ℕ × ℕ)) (t d : ℕ) (P : Type 0) → entry_at t xs ≡ None → P ⊎ (decision xs t d ≡ There) → P
is_new xs t d P none (inl p) = p
is_new xs t d P none (inr there) = let some = there_means xs t d there in absurd cc

-- nothing stood there, and there is room
record Facts (c : goal.After-insert-in-Err) : Type 0 where
  none : entry_at c.args.time c.self.inside.times.list ≡ None
  none_now : entry_at c.args.time c.args.self.now.times ≡ None
  place : c.in-Err.place ≡ place_in c.args.time c.self.inside.times.list
  spare : 1 ≤ c.args.self.now.spare
  over : overlapped_end (c.args.time, c.args.duration) c.self.inside.times.list ≡ None

facts : (c : goal.After-insert-in-Err) → Facts c
facts c =
    let none : entry_at c.args.time c.self.inside.times.list ≡ None = rw c.as_slice.ensures at c.in-Err.ensures.absent.2 in
    let now : entry_at c.args.time c.args.self.now.times ≡ None = sym (ap (λ (l : Line). entry_at c.args.time l.times) c.self.view_is) ∙ none in
    let new = is_new c.args.self.now.times c.args.time c.args.duration (decision c.args.self.now.times c.args.time c.args.duration ≡ New) now c.requires.decision in
    record {
      none = none;
      none_now = now;
      place = rw c.as_slice.ensures at c.in-Err.ensures.absent.0;
      spare = is_new c.args.self.now.times c.args.time c.args.duration (1 ≤ c.args.self.now.spare) now c.requires.spare;
      over = ap (λ (l : Line). overlapped_end (c.args.time, c.args.duration) l.times) c.self.view_is ∙ (new_means c.args.self.now.times c.args.time c.args.duration new).1;
    }

times_put : (c : goal.After-insert-in-Err) → c.insert.new.self.list ≡ with_entry c.args.time c.args.duration c.self.inside.times.list
times_put c =
    let f = facts c in
    rw (c.insert.ensures.list, f.place) (sym (put_in c.args.time c.args.duration c.self.inside.times.list f.none))

counts_put : (c : goal.After-insert-in-Err) → c.insert-in-Err.new.self.list ≡ counted c.args.time c.self.inside.times.list c.self.inside.counts.list
counts_put c =
    let f = facts c in
    rw (c.insert-in-Err.ensures.list, f.place) (sym (counted_absent c.args.time c.self.inside.times.list c.self.inside.counts.list c.self.invariant.as_many f.none))

pub invariant_of-self-in-Err : goal.invariant_of-self-in-Err
invariant_of-self-in-Err c =
    let f = facts c in
    rw (times_put c, counts_put c) (record {
      apart = apart_with c.args.time c.args.duration c.self.inside.times.list c.requires.span c.self.invariant.apart f.none f.over;
      as_many = as_many_counted c.args.time c.args.duration c.self.inside.times.list c.self.inside.counts.list c.self.invariant.as_many;
    })

pub returns-in-Ok-clause-times : goal.returns-in-Ok-clause-times
returns-in-Ok-clause-times c =
    let xs = c.self.inside.times.list in
    let there = rw c.as_slice.ensures at c.in-Ok.ensures.found.2 (0, 0) in
    sym (stays c.args.time c.args.duration _ xs (sorted_times xs c.self.invariant.apart) there) ∙ ap (λ (l : Line). with_entry c.args.time c.args.duration l.times) c.self.view_is

pub returns-in-Ok-clause-counts : goal.returns-in-Ok-clause-counts
returns-in-Ok-clause-counts c =
    let xs = c.self.inside.times.list in
    let cs = c.self.inside.counts.list in
    let is : c.in-Ok.place ≡ place_in c.args.time xs = rw c.as_slice.ensures at c.in-Ok.ensures.found.0 in
    let within : c.in-Ok.place < length cs = omega (arith, (rw c.as_slice.ensures at c.in-Ok.ensures.found.1), c.self.invariant.as_many) in
    let there = rw c.as_slice.ensures at c.in-Ok.ensures.found.2 (0, 0) in
    c.set.ensures.list
    ∙ ap (λ n. set cs c.in-Ok.place n) (c.saturating_add.ensures ∙ ap (λ (l : List ℕ). more (get_or l c.in-Ok.place 0)) c.as_slice-in-Ok.ensures)
    ∙ ap (λ i. set cs i (more (get_or cs i 0))) is
    ∙ sym (counted_there c.args.time _ xs cs (sorted_times xs c.self.invariant.apart) c.self.invariant.as_many there)
    ∙ ap (λ (l : Line). counted c.args.time l.times l.counts) c.self.view_is

pub returns-in-Ok-clause-spare : goal.returns-in-Ok-clause-spare
returns-in-Ok-clause-spare c =
    let there = rw c.as_slice.ensures at c.in-Ok.ensures.found.2 (0, 0) in
    rw (c.set.ensures.room, sym (ap (λ (l : Line). entry_at c.args.time l.times) c.self.view_is) ∙ there) (ap (λ (l : Line). l.spare) c.self.view_is)

pub returns-in-Err-clause-times : goal.returns-in-Err-clause-times
returns-in-Err-clause-times c = times_put c ∙ ap (λ (l : Line). with_entry c.args.time c.args.duration l.times) c.self.view_is

pub returns-in-Err-clause-counts : goal.returns-in-Err-clause-counts
returns-in-Err-clause-counts c = counts_put c ∙ ap (λ (l : Line). counted c.args.time l.times l.counts) c.self.view_is

pub returns-in-Ok-clause-count : goal.returns-in-Ok-clause-count
returns-in-Ok-clause-count c = λ u.
    let times = returns-in-Ok-clause-times c in
    let counts = returns-in-Ok-clause-counts c in
    count_after u c.args.time c.args.duration _ _ _ _ (subst (λ (l : Line). AreSorted l.times) c.self.view_is (sorted_times _ c.self.invariant.apart))
    (subst (λ (l : Line). length l.counts ≡ length l.times) c.self.view_is c.self.invariant.as_many) times counts

pub returns-in-Err-clause-count : goal.returns-in-Err-clause-count
returns-in-Err-clause-count c = λ u.
    let times = returns-in-Err-clause-times c in
    let counts = returns-in-Err-clause-counts c in
    count_after u c.args.time c.args.duration _ _ _ _ (subst (λ (l : Line). AreSorted l.times) c.self.view_is (sorted_times _ c.self.invariant.apart))
    (subst (λ (l : Line). length l.counts ≡ length l.times) c.self.view_is c.self.invariant.as_many) times counts
