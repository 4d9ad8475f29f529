use Rattle.std.proofs.Common.{◌≡◌, drop}
use Rattle.sm_push.specs.Header.{id_for}
use Rattle.sm_push.proofs.track.id_for.Given as goal

abbrev pub invariant-loop-track : goal.invariant-loop-track
invariant-loop-track l = id_for l.stream l.bitrate (drop l.track-index l.tracks) ≡ id_for l.stream l.bitrate l.tracks
