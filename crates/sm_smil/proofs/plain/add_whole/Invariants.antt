use Rattle.std.proofs.Common.{◌≡◌, ◌++◌, take, drop, []}
use Rattle.sm_smil.specs.LiveFaults.{tracks_faults}
use Rattle.sm_smil.proofs.plain.add_whole.Given as goal

abbrev pub invariant-loop-i : goal.invariant-loop-i
invariant-loop-i l =
    l.places.items ++ tracks_faults l.form (take l.i l.tracks) (drop l.i l.tracks) ≡ l.initial.places.items ++ tracks_faults l.form [] l.tracks
