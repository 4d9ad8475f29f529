use Rattle.std.proofs.Common.{◌≢◌, ◌<◌, ℕ, take}
use Rattle.sm_body.specs.declared.place.Place.TheVariants.{Ended}
use Rattle.sm_body.specs.Places.{start, place_after}
use Rattle.sm_fetch.proofs.plain.body_plainly.Given as goal

abbrev pub invariant-loop-end : goal.invariant-loop-end
invariant-loop-end l = (k : ℕ) → k < l.end → place_after (start l.fn.framing) (take k l.bytes) ≢ Ended
