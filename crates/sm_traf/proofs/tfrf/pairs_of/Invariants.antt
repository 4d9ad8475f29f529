use Rattle.std.proofs.Common.{◌≡◌}
use Rattle.sm_model.specs.Fields.{pairs}
use Rattle.sm_traf.proofs.tfrf.pairs_of.Given as goal

abbrev pub invariant-loop-i : goal.invariant-loop-i
invariant-loop-i l = l.pairs.items ≡ pairs l.body l.i
