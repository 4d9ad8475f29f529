use Rattle.std.proofs.Common.{◌≡◌, take, map}
use Rattle.sm_smil.specs.LiveTracks.{ladder_track}
use Rattle.sm_smil.proofs.track.ladder_tracks.Given as goal

abbrev pub invariant-loop-raw : goal.invariant-loop-raw
invariant-loop-raw l = l.tracks.items ≡ map ladder_track (take l.raw-index l.done)
