use Rattle.std.proofs.Common.{◌≡◌, length}
use Rattle.sm_words.specs.Places.{holds_isml}
use Rattle.sm_words.proofs.place.holds_isml.Given as goal

abbrev pub invariant-loop-rest : goal.invariant-loop-rest
invariant-loop-rest l = holds_isml l.rest ≡ holds_isml l.text

abbrev pub decreases-loop-rest : goal.decreases-loop-rest
decreases-loop-rest l = length l.rest
