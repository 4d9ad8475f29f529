use Rattle.std.proofs.Common.{◌≡◌, ◌++◌}
use Rattle.sm_smil.specs.Placed.{ended_tracks}
use Rattle.sm_smil.proofs.plain.ended_tracks.Given as goal

abbrev pub invariant-loop-track : goal.invariant-loop-track
invariant-loop-track l = l.ended.items ++ ended_tracks l.track-iterator.rest.items ≡ ended_tracks l.fn.tracks.items
