use Rattle.std.proofs.Common.{length}
use Rattle.sm_moov.proofs.plain.+defaults_for.Given as goal

abbrev pub decreases-defaults_for : goal.decreases-defaults_for
decreases-defaults_for l = length l.trexes.now
