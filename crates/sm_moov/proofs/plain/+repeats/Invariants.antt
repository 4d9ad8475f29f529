use Rattle.std.proofs.Common.{length}
use Rattle.sm_moov.proofs.plain.+repeats.Given as goal

abbrev pub decreases-repeats : goal.decreases-repeats
decreases-repeats l = length l.heads.now
