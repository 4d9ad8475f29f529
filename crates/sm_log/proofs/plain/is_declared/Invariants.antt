use Rattle.std.proofs.Common.{◌≡◌, drop}
use Rattle.sm_log.specs.Adds.{track_at}
use Rattle.sm_log.proofs.plain.is_declared.Given as goal

abbrev pub invariant-loop-track : goal.invariant-loop-track
invariant-loop-track l = track_at l.stream l.bitrate (drop l.track-index l.channel) ≡ track_at l.stream l.bitrate l.channel
