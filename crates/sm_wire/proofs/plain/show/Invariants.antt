use Rattle.std.proofs.Common.{◌≡◌, ◌++◌, length}
use Rattle.std.specs.Prelude.{map}
use Rattle.sm_wire.proofs.PlainLaw.{shown_item}
use Rattle.sm_wire.proofs.plain.show.Given as goal

abbrev pub invariant-loop-left : goal.invariant-loop-left
invariant-loop-left l = l.out.items ++ map shown_item l.left.items ≡ l.initial.out.items ++ map shown_item l.initial.left.items

abbrev pub decreases-loop-left : goal.decreases-loop-left
decreases-loop-left l = length l.left.items
