use Rattle.sm_log.specs.Times.{IsSpan}
use Rattle.sm_log.proofs.Entries.{entry_has}
use Rattle.sm_log.proofs.Apart.{sorted_times, all_spans}
use Rattle.sm_timeline.proofs.timeline.Timeline.duration.Goals as goal

pub find-requires : goal.find-requires
find-requires c = rw c.as_slice-times.ensures (sorted_times _ c.self.invariant.apart)

pub returns-in-Ok-clause-span : goal.returns-in-Ok-clause-span
returns-in-Ok-clause-span c =
    let xs = c.self.inside.times.list in
    let there = rw c.as_slice-times.ensures at c.in-Ok.ensures.found.2 (0, 0) in
    rw c.as_slice-times.ensures (entry_has IsSpan c.args.time _ xs (all_spans xs c.self.invariant.apart) there)
