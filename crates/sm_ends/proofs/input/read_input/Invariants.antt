use Rattle.std.proofs.Common.{◌≤◌, ◌-◌, take, vec_len}
use Rattle.std.specs.Io.KnownBytes.{Consumes}
use Rattle.sm_ends.proofs.input.read_input.Given as goal

abbrev pub invariant-loop-filled : goal.invariant-loop-filled
invariant-loop-filled g l =
    (l.filled ≤ vec_len l.room)
    × (vec_len l.room ≤ l.limit)
    × Consumes (g.I.Source.left l.initial.source) (g.I.Source.left l.source) (take l.filled l.room.items)
    × (g.I.Source.faults l.initial.source ≤ g.I.Source.faults l.source)

abbrev pub decreases-loop-filled : goal.decreases-loop-filled
decreases-loop-filled g l = l.limit - l.filled
