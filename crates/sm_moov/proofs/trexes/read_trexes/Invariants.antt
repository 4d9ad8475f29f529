use Rattle.std.proofs.Common.{◌≡◌, length, ◌-◌}
use Rattle.sm_model.specs.Moov.{trexes_of}
use Rattle.sm_box.proofs.Split.{IsSplit}
use Rattle.sm_moov.proofs.trexes.read_trexes.Given as goal

abbrev pub invariant-walk : goal.invariant-walk
invariant-walk l = IsSplit l.body l.children (λ xs. l.trexes ≡ trexes_of xs)

abbrev pub decreases-walk : goal.decreases-walk
decreases-walk l = length l.body - l.children.at
