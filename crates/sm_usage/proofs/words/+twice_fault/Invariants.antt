use Rattle.std.proofs.Common.{length}
use Rattle.sm_usage.proofs.words.+twice_fault.Given as goal

abbrev pub decreases-twice_fault : goal.decreases-twice_fault
decreases-twice_fault l = length l.options.now
