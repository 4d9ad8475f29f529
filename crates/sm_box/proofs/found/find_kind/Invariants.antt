use Rattle.std.proofs.Common.{◌≡◌, length, ◌-◌}
use Rattle.sm_model.specs.Found.{found, bodies}
use Rattle.sm_box.specs.Seen.{seen}
use Rattle.sm_box.proofs.Split.{IsSplit}
use Rattle.sm_box.proofs.found.find_kind.Given as goal

abbrev pub invariant-walk : goal.invariant-walk
invariant-walk l = IsSplit l.body l.children (λ xs. seen l.of_kind ≡ found (bodies l.name xs))

abbrev pub decreases-walk : goal.decreases-walk
decreases-walk l = length l.body - l.children.at
