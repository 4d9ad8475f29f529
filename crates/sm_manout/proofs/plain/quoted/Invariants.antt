use Rattle.std.proofs.Common.{◌≡◌, ◌≤◌, ◌+◌, ◌-◌, drop, length}
use Rattle.sm_manout.specs.Shown.{quoted}
use Rattle.sm_manout.proofs.plain.quoted.Given as goal

abbrev pub invariant-loop-i : goal.invariant-loop-i
invariant-loop-i l = (l.i ≤ length l.pieces + 1) × (quoted l.lead (drop l.i l.pieces) ≡ quoted l.lead l.pieces)

abbrev pub decreases-loop-i : goal.decreases-loop-i
decreases-loop-i l = length l.pieces + 2 - l.i
