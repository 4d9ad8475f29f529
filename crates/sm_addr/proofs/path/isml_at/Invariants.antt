use Rattle.std.proofs.Common.{◌≡◌, take, drop}
use Rattle.sm_addr.specs.Paths.{cut_isml}
use Rattle.sm_addr.proofs.CutLaw.{after_cut}
use Rattle.sm_addr.proofs.path.isml_at.Given as goal

abbrev pub invariant-loop-at : goal.invariant-loop-at
invariant-loop-at l = cut_isml l.text ≡ after_cut (take l.at l.text) (cut_isml (drop l.at l.text))
