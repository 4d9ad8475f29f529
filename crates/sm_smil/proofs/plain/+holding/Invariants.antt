use Rattle.std.proofs.Common.{length}
use Rattle.sm_smil.proofs.plain.+holding.Given as goal

abbrev pub decreases-holding : goal.decreases-holding
decreases-holding l = length l.tags.now
