use Rattle.std.proofs.Common.{◌≡◌, ◌++◌, take}
use Rattle.std.specs.List.{flat_map}
use Rattle.sm_model.specs.FragText.{pair}
use Rattle.sm_traf.proofs.put.append_pairs.Given as goal

abbrev pub invariant-loop-time : goal.invariant-loop-time
invariant-loop-time l = l.out.items ≡ l.initial.out.items ++ flat_map pair (take l.time-index l.pairs)
