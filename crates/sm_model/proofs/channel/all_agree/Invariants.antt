use Rattle.std.proofs.Common.{ℕ, ◌<◌, slice_index_or}
use Rattle.sm_model.specs.declared.track.Track.{Track}
use Rattle.sm_model.specs.Channels.{Agree}
use Rattle.sm_model.proofs.channel.all_agree.Given as goal

abbrev pub invariant-loop-place : goal.invariant-loop-place
invariant-loop-place l = (j k : ℕ) (d : Track) → j < k → k < l.place → Agree (slice_index_or l.tracks j d) (slice_index_or l.tracks k d)
