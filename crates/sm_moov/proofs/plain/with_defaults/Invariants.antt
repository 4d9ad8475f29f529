use Rattle.std.proofs.Common.{◌≡◌, map, take}
use Rattle.sm_model.specs.Moov.{with_defaults}
use Rattle.sm_moov.proofs.plain.with_defaults.Given as goal

abbrev pub invariant-loop-head : goal.invariant-loop-head
invariant-loop-head l = l.given.items ≡ map (with_defaults l.trexes) (take l.head-index l.heads)
