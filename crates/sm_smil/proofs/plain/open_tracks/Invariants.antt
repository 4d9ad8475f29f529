use Rattle.std.proofs.Common.{◌≡◌, ◌++◌}
use Rattle.sm_smil.specs.Placed.{open_tracks}
use Rattle.sm_smil.proofs.plain.open_tracks.Given as goal

abbrev pub invariant-loop-track : goal.invariant-loop-track
invariant-loop-track l = l.open_ones.items ++ open_tracks l.track-iterator.rest.items ≡ open_tracks l.fn.tracks.items
