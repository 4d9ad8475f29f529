use Rattle.std.proofs.Common.{◌≡◌, ◌++◌, drop, map}
use Rattle.sm_manout.specs.Plain.{address}
use Rattle.sm_manout.specs.Shown.{lists_from, lists}
use Rattle.sm_manout.proofs.plain.lists.Given as goal

abbrev pub invariant-loop-line : goal.invariant-loop-line
invariant-loop-line l = map address l.out.items ++ lists_from l.opened (drop l.line-index l.line-items) ≡ lists l.part
