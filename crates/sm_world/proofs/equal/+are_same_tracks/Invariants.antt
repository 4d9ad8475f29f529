use Rattle.std.proofs.Common.{length}
use Rattle.sm_world.proofs.equal.+are_same_tracks.Given as goal

abbrev pub decreases-are_same_tracks : goal.decreases-are_same_tracks
decreases-are_same_tracks l = length l.a.now
