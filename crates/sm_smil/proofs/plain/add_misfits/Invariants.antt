use Rattle.std.proofs.Common.{◌≡◌, ◌++◌, drop}
use Rattle.sm_smil.specs.LiveFaults.{misfits}
use Rattle.sm_smil.proofs.plain.add_misfits.Given as goal

abbrev pub invariant-loop-param : goal.invariant-loop-param
invariant-loop-param l = l.places.items ++ misfits (drop l.param-index l.params) ≡ l.initial.places.items ++ misfits l.params
