use Rattle.std.proofs.Common.{length}
use Rattle.sm_ends.proofs.memory_tracks.+bytes_of.Given as goal

abbrev pub decreases-bytes_of : goal.decreases-bytes_of
decreases-bytes_of l = length l.tracks.now
