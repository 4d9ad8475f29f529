use Rattle.std.proofs.Common.{length}
use Rattle.sm_usage.proofs.words.+values_fault.Given as goal

abbrev pub decreases-values_fault : goal.decreases-values_fault
decreases-values_fault l = length l.options.now
