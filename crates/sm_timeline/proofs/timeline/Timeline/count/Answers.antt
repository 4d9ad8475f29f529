use Rattle.std.proofs.Common.{◌≡◌, ◌<◌, ℕ, List, length, get_or, None, sym, ap, ◌∙◌, arith}
use Rattle.sm_log.specs.Times.{entry_at}
use Rattle.sm_timeline.specs.Places.{place_in}
use Rattle.sm_timeline.specs.Lines.{Line, count_at}
use Rattle.sm_log.proofs.Apart.{sorted_times}
use Rattle.sm_timeline.proofs.Counts.{count_there, count_absent}
use Rattle.sm_timeline.proofs.timeline.Timeline.count.Goals as goal

pub find-requires : goal.find-requires
find-requires c = rw c.as_slice.ensures (sorted_times _ c.self.invariant.apart)

pub returns-in-Ok : goal.returns-in-Ok
returns-in-Ok c =
    let xs = c.self.inside.times.list in
    let cs = c.self.inside.counts.list in
    let is : c.in-Ok.place ≡ place_in c.args.time xs = rw c.as_slice.ensures at c.in-Ok.ensures.found.0 in
    let within : c.in-Ok.place < length cs = omega (arith, (rw c.as_slice.ensures at c.in-Ok.ensures.found.1), c.self.invariant.as_many) in
    let there = rw c.as_slice.ensures at c.in-Ok.ensures.found.2 (0, 0) in
    ap (λ (l : List ℕ). get_or l c.in-Ok.place 0) c.as_slice-in-Ok.ensures ∙ ap (λ i. get_or cs i 0) is
    ∙ sym (count_there c.args.time _ xs cs (sorted_times xs c.self.invariant.apart) c.self.invariant.as_many there)
    ∙ ap (λ (l : Line). count_at c.args.time l.times l.counts) c.self.view_is

pub returns-in-Err : goal.returns-in-Err
returns-in-Err c =
    let xs = c.self.inside.times.list in
    let cs = c.self.inside.counts.list in
    let none : entry_at c.args.time xs ≡ None = rw c.as_slice.ensures at c.in-Err.ensures.absent.2 in
    sym (count_absent c.args.time xs cs none) ∙ ap (λ (l : Line). count_at c.args.time l.times l.counts) c.self.view_is
