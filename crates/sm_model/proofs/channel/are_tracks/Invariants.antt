use Rattle.std.proofs.Common.{ℕ, ◌<◌, slice_index_or}
use Rattle.sm_model.specs.declared.track.Track.{Track}
use Rattle.sm_model.specs.Channels.{IsTrack}
use Rattle.sm_model.proofs.channel.are_tracks.Given as goal

abbrev pub invariant-loop-track : goal.invariant-loop-track
invariant-loop-track l = (k : ℕ) (d : Track) → k < l.track-index → IsTrack (slice_index_or l.tracks k d)
