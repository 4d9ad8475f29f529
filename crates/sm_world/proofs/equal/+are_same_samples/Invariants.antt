use Rattle.std.proofs.Common.{length}
use Rattle.sm_world.proofs.equal.+are_same_samples.Given as goal

abbrev pub decreases-are_same_samples : goal.decreases-are_same_samples
decreases-are_same_samples l = length l.a.now
