use Rattle.std.proofs.Common.{take}
use Rattle.sm_pick.proofs.Searching.{IsCounted}
use Rattle.sm_pick.proofs.seek.seek.Given as goal

abbrev pub invariant-loop-index : goal.invariant-loop-index
invariant-loop-index l = IsCounted l.before l.track l.time (take l.index l.items) l.tally.count l.tally.hit
