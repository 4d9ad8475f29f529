use Rattle.std.proofs.Common.{◌≤◌, ◌<◌, ◌+◌, ◌-◌, vec_len}
use Rattle.sm_ends.specs.Ended.{input_most}
use Rattle.sm_pick.proofs.Picking.{IsReadUpTo}
use Rattle.sm_pick.proofs.reading.pick.Given as goal

abbrev pub invariant-loop-total : goal.invariant-loop-total
invariant-loop-total g l = record {
  room : 0 < vec_len l.room;
  read : IsReadUpTo l.track l.time (g.I.Source.left l.initial.input) (g.I.Source.left l.input) l.search l.total;
  later : g.I.Source.faults l.initial.input ≤ g.I.Source.faults l.input;
}

abbrev pub decreases-loop-total : goal.decreases-loop-total
decreases-loop-total g l = input_most + 1 - l.total
