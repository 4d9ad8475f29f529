use Rattle.std.proofs.Common.{length}
use Rattle.sm_usage.proofs.words.+more_fault.Given as goal

abbrev pub decreases-more_fault : goal.decreases-more_fault
decreases-more_fault l = length l.words.now
