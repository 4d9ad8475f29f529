use Rattle.std.proofs.Common.{length}
use Rattle.sm_smil.proofs.plain.+place_behind.Given as goal

abbrev pub decreases-place_behind : goal.decreases-place_behind
decreases-place_behind l = length l.tracks.now
