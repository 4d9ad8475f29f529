use Rattle.std.proofs.Common.{◌≡◌, drop}
use Rattle.sm_push.specs.Header.{track_with}
use Rattle.sm_push.proofs.track.track_with.Given as goal

abbrev pub invariant-loop-track : goal.invariant-loop-track
invariant-loop-track l = track_with l.id (drop l.track-index l.tracks) ≡ track_with l.id l.tracks
