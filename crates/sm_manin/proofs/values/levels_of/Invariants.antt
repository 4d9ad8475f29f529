use Rattle.std.proofs.Common.{◌≡◌, drop}
use Rattle.sm_manin.specs.Listings.{levels_from, levels_of}
use Rattle.sm_manin.proofs.values.levels_of.Given as goal

abbrev pub invariant-loop-level : goal.invariant-loop-level
invariant-loop-level l =
    (levels_from l.sorted.items l.place (drop l.level-index l.levels) ≡ levels_of l.levels) × (l.place ≡ l.level-index)
