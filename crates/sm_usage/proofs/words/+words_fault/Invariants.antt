use Rattle.std.proofs.Common.{length}
use Rattle.sm_usage.proofs.words.+words_fault.Given as goal

abbrev pub decreases-words_fault : goal.decreases-words_fault
decreases-words_fault l = length l.parts.now
