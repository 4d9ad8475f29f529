use Rattle.std.proofs.Common.{◌≡◌, ◌++◌, length, None}
use Rattle.sm_conn.specs.Stands.{joined}
use Rattle.sm_wire.specs.Wire.{wire}
use Rattle.sm_wire.proofs.plain.read_parts.Given as goal

abbrev pub invariant-loop-out : goal.invariant-loop-out
invariant-loop-out l = l.out.items ++ wire l.pending (joined l.left.items) ≡ wire None (joined l.initial.left.items)

abbrev pub decreases-loop-out : goal.decreases-loop-out
decreases-loop-out l = length l.left.items
