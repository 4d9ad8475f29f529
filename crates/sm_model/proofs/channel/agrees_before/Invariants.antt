use Rattle.std.proofs.Common.{ℕ, ◌<◌, slice_index_or}
use Rattle.sm_model.specs.declared.track.Track.{Track}
use Rattle.sm_model.specs.Channels.{Agree}
use Rattle.sm_model.proofs.channel.agrees_before.Given as goal

abbrev pub invariant-loop-i : goal.invariant-loop-i
invariant-loop-i l = (k : ℕ) (d : Track) → k < l.i → Agree (slice_index_or l.tracks k d) (slice_index_or l.tracks l.place d)
