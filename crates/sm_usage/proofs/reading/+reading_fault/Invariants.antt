use Rattle.std.proofs.Common.{length}
use Rattle.sm_usage.proofs.reading.+reading_fault.Given as goal

abbrev pub decreases-reading_fault : goal.decreases-reading_fault
decreases-reading_fault l = length l.words.now
