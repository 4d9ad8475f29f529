use Rattle.std.proofs.Common.{length}
use Rattle.sm_smil.proofs.plain.+add_tracks.Given as goal

abbrev pub decreases-add_tracks : goal.decreases-add_tracks
decreases-add_tracks l = length l.tags.now
