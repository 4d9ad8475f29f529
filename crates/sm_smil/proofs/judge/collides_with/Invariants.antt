use Rattle.std.proofs.Common.{◌≡◌, drop}
use Rattle.sm_smil.specs.LiveFaults.{collides_with}
use Rattle.sm_smil.proofs.judge.collides_with.Given as goal

abbrev pub invariant-loop-other : goal.invariant-loop-other
invariant-loop-other l =
    collides_with l.form (drop l.other-index l.earlier) l.track ≡ collides_with l.form l.earlier l.track
