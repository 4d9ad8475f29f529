use Rattle.std.proofs.Common.{◌≡◌, None, refl, sym, ap, ◌∙◌}
use Rattle.sm_log.specs.Times.{entry_at, with_entry}
use Rattle.sm_timeline.specs.Lines.{Entries}
use Rattle.sm_log.proofs.Entries.{stays, sorted_with}
use Rattle.sm_timeline.proofs.Sorted.{put_in}
use Rattle.sm_timeline.proofs.by_time.ByTime.put.Goals as goal

-- what is put where nothing stood
put_items : (c : goal.After-insert) → c.insert.new.self.list ≡ with_entry c.args.time c.args.value c.self.inside.items.list
put_items c =
    let xs = c.self.inside.items.list in
    let none : entry_at c.args.time xs ≡ None = rw c.as_slice.ensures at c.in-Err.ensures.absent.2 in
    rw (c.insert.ensures.list, c.in-Err.ensures.absent.0, c.as_slice.ensures) (sym (put_in c.args.time c.args.value xs none))

pub invariant_of-self : goal.invariant_of-self
invariant_of-self c = rw (put_items c) (sorted_with c.args.time c.args.value c.self.inside.items.list c.self.invariant)

pub returns-in-Ok-clause-entries : goal.returns-in-Ok-clause-entries
returns-in-Ok-clause-entries c =
    rw (← c.self.view_is, ← c.as_slice.ensures) (sym (stays c.args.time c.args.value _ c.as_slice.result.now (rw c.as_slice.ensures c.self.invariant) (c.in-Ok.ensures.found.2 (0, 0))))

pub returns-in-Ok-clause-room : goal.returns-in-Ok-clause-room
returns-in-Ok-clause-room c =
    let there = rw c.as_slice.ensures at c.in-Ok.ensures.found.2 (0, 0) in
    rw (sym (ap (λ (e : Entries). entry_at c.args.time e.entries) c.self.view_is) ∙ there) refl

pub returns-in-Err-clause-entries : goal.returns-in-Err-clause-entries
returns-in-Err-clause-entries c =
    put_items c ∙ ap (λ (e : Entries). with_entry c.args.time c.args.value e.entries) c.self.view_is
