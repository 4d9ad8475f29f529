use Rattle.std.proofs.Common.{◌≡◌, take, map}
use Rattle.sm_smil.specs.LiveTracks.{smil_track}
use Rattle.sm_smil.proofs.track.smil_tracks.Given as goal

abbrev pub invariant-loop-raw : goal.invariant-loop-raw
invariant-loop-raw l = l.tracks.items ≡ map smil_track (take l.raw-index l.done)
