use Rattle.std.proofs.Common.{◌+◌, ◌-◌, ◌*◌, ◌≤◌, List, ◌++◌, length, drop}
use Rattle.sm_conn.specs.Parts.{PartItem, Mode, Reads}
use Rattle.sm_conn.specs.Stands.{mode_at, joined, rank}
use Rattle.sm_conn.proofs.conn.Conn.read_all.Given as goal

abbrev pub invariant-loop-parts : goal.invariant-loop-parts
invariant-loop-parts l = record {
  within : l.at ≤ length l.bytes;
  goes_on : (items : List PartItem) (last : Mode) → Reads (mode_at l.self.state) (drop l.at l.bytes) items last
      → Reads (mode_at l.initial.self.state) l.bytes (joined l.parts.items ++ items) last;
}

abbrev pub decreases-loop-parts : goal.decreases-loop-parts
decreases-loop-parts l = rank l.self.state + 2 * (length l.bytes - l.at)
