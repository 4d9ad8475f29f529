use Rattle.std.proofs.Common.{◌≡◌, drop}
use Rattle.sm_head.specs.Shown.{body_of}
use Rattle.sm_head.proofs.plain.body_of.Given as goal

abbrev pub invariant-loop-i : goal.invariant-loop-i
invariant-loop-i l = body_of (drop l.i l.part) ≡ body_of l.part
