use Rattle.std.proofs.Common.{◌≡◌, take, drop, []}
use Rattle.sm_model.specs.Places.{least_from}
use Rattle.sm_smil.specs.LiveFaults.{tracks_faults}
use Rattle.sm_smil.proofs.judge.note_tracks.Given as goal

abbrev pub invariant-loop-i : goal.invariant-loop-i
invariant-loop-i l =
    least_from l.fault (tracks_faults l.form (take l.i l.tracks) (drop l.i l.tracks)) ≡ least_from l.initial.fault (tracks_faults l.form [] l.tracks)
