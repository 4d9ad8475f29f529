use Rattle.std.proofs.Common.{◌≡◌, take, drop, []}
use Rattle.sm_model.specs.Places.{least_from}
use Rattle.sm_manin.specs.ManifestFaults.{level_faults}
use Rattle.sm_manin.proofs.judge.note_levels.Given as goal

abbrev pub invariant-loop-i : goal.invariant-loop-i
invariant-loop-i l =
    least_from l.fault (level_faults (take l.i l.levels) (drop l.i l.levels)) ≡ least_from l.initial.fault (level_faults [] l.levels)
