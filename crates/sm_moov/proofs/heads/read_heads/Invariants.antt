use Rattle.std.proofs.Common.{◌≡◌, length, ◌-◌}
use Rattle.sm_model.specs.Moov.{traks_of}
use Rattle.sm_box.proofs.Split.{IsSplit}
use Rattle.sm_moov.proofs.heads.read_heads.Given as goal

abbrev pub invariant-walk : goal.invariant-walk
invariant-walk l = IsSplit l.body l.children (λ xs. l.heads ≡ traks_of xs)

abbrev pub decreases-walk : goal.decreases-walk
decreases-walk l = length l.body - l.children.at
