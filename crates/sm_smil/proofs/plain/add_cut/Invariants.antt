use Rattle.std.proofs.Common.{◌≡◌, ◌++◌, drop}
use Rattle.std.specs.List.{flat_map}
use Rattle.sm_smil.specs.LiveFaults.{inner_faults}
use Rattle.sm_smil.proofs.plain.add_cut.Given as goal

abbrev pub invariant-loop-track : goal.invariant-loop-track
invariant-loop-track l =
    l.places.items ++ flat_map inner_faults (drop l.track-index l.tracks) ≡ l.initial.places.items ++ flat_map inner_faults l.tracks
