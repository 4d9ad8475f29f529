use Rattle.std.proofs.Common.{◌≡◌, length, ◌-◌}
use Rattle.sm_traf.specs.Parts.{seen_parts}
use Rattle.sm_model.specs.Frag.{traf_of}
use Rattle.sm_box.proofs.Split.{IsSplit}
use Rattle.sm_traf.proofs.parts.parts_of.Given as goal

abbrev pub invariant-walk : goal.invariant-walk
invariant-walk l = IsSplit l.body l.children (λ xs. seen_parts l.parts ≡ traf_of xs)

abbrev pub decreases-walk : goal.decreases-walk
decreases-walk l = length l.body - l.children.at
