use Rattle.std.proofs.Common.{rules, ◌∷◌, [], ◌∙◌, All, Some, map, refl, sym, ap, subst, arith}
use Rattle.std.proofs.lemmas.List.{map-append}
use Rattle.std.proofs.lemmas.List.Elements.{All-pop}
use Rattle.sm_shelf.specs.Shelf.{Sight}
use Rattle.sm_run.specs.Staff.{IsUnread}
use Rattle.sm_run.proofs.Starts.{starts_none, starts_one}
use Rattle.sm_run.proofs.staffing.start_all.Goals as goal

pub loop-reader-init : goal.loop-reader-init
loop-reader-init g c =
    let len = c.len.ensures in
    let room = c.in-Ok.ensures.ok in
    record {
      started = omega arith;
      no_fewer = omega arith;
      unread = λ shelf all. all;
      starts = λ shelf all. starts_none shelf _ _ _ _ _ refl refl;
      count = omega arith;
      few = omega arith;
      room = omega (arith, len, room);
      limit = refl;
      chosen = refl;
      later = omega arith;
    }

pub loop-reader-preserved : goal.loop-reader-preserved
loop-reader-preserved g c =
    let was = c.loop-reader.invariant in
    let now = c.in_ok-handle.ensures in
    let started = was.started in
    let no_fewer = was.no_fewer in
    let count = was.count in
    let few = was.few in
    let room = was.room in
    let later = was.later in
    let one = now.ok in
    let more_faults = now.later in
    let len = c.in-Some.ensures.len in
    let longer = c.push_reserved.ensures.len in
    let capacity = c.push_reserved.ensures.capacity in
    record {
      started = omega (arith, started, one, len);
      no_fewer = omega (arith, no_fewer, one);
      unread = λ shelf all.
          (All-pop (IsUnread shelf) c.loop-reader.readers.items c.pop.new.self.items (Some c.in-Some.reader) c.in-Some.ensures.items (was.unread shelf all)).0;
      starts = λ shelf all.
          let none = All-pop (IsUnread shelf) c.loop-reader.readers.items c.pop.new.self.items (Some c.in-Some.reader) c.in-Some.ensures.items (was.unread shelf all) in
          starts_one shelf _ _ _ _ _ _ _ c.in_ok-handle.handle.promise one (now.given.0 ∙ ap (λ (s : Sight). s.table) none.1, now.given.1 ∙ ap (λ (s : Sight). s.seen) none.1, now.given.2 ∙ was.limit)
          (ap (map (λ h. h.promise)) c.push_reserved.ensures.items ∙ map-append (λ h. h.promise) c.loop-reader.running.items (c.in_ok-handle.handle ∷ []))
          (was.starts shelf all);
      count = omega (arith, count, one, longer);
      few = omega (arith, few, len, longer);
      room = omega (arith, room, len, longer, capacity);
      limit = now.limit ∙ was.limit;
      chosen = now.chosen ∙ was.chosen;
      later = omega (arith, later, more_faults);
    }

pub returns-clause-starts : goal.returns-clause-starts
returns-clause-starts g c shelf all =
    let so = c.loop-reader.invariant.starts shelf (subst (All (IsUnread shelf)) (sym c.into_vec-readers.ensures) all) in
    search rules

pub returns-in_err-handle-clause-starts : goal.returns-in_err-handle-clause-starts
returns-in_err-handle-clause-starts g c shelf all =
    let so = c.loop-reader.invariant.starts shelf (subst (All (IsUnread shelf)) (sym c.into_vec-readers.ensures) all) in
    search rules

pub returns-in_default-clause-starts : goal.returns-in_default-clause-starts
returns-in_default-clause-starts g c shelf all = starts_none shelf _ _ _ _ _ refl (search rules)
