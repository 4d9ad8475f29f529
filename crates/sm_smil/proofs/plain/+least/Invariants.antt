use Rattle.std.proofs.Common.{length}
use Rattle.sm_smil.proofs.plain.+least.Given as goal

abbrev pub decreases-least : goal.decreases-least
decreases-least l = length l.places.now
