use Rattle.std.proofs.Common.{◌≡◌, take, drop, []}
use Rattle.sm_model.specs.Places.{least_from}
use Rattle.sm_manin.specs.ManifestFaults.{streams_faults}
use Rattle.sm_manin.proofs.judge.note_streams.Given as goal

abbrev pub invariant-loop-i : goal.invariant-loop-i
invariant-loop-i l =
    least_from l.fault (streams_faults (take l.i l.streams) (drop l.i l.streams)) ≡ least_from l.initial.fault (streams_faults [] l.streams)
