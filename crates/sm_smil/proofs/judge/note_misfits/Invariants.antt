use Rattle.std.proofs.Common.{◌≡◌, drop}
use Rattle.sm_model.specs.Places.{least_from}
use Rattle.sm_smil.specs.LiveFaults.{misfits}
use Rattle.sm_smil.proofs.judge.note_misfits.Given as goal

abbrev pub invariant-loop-param : goal.invariant-loop-param
invariant-loop-param l =
    least_from l.fault (misfits (drop l.param-index l.params)) ≡ least_from l.initial.fault (misfits l.params)
