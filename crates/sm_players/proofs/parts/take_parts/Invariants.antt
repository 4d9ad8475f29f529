use Rattle.std.proofs.Common.{length, take, true}
use Rattle.sm_conn.specs.Stands.{joined}
use Rattle.sm_players.specs.Telling.{LeavesBoth}
use Rattle.sm_players.specs.Taking.{standing}
use Rattle.sm_players.proofs.Handling.{Taken}
use Rattle.sm_players.proofs.parts.take_parts.Given as goal

abbrev pub invariant-loop-part : goal.invariant-loop-part
invariant-loop-part g l = record {
  leaves : LeavesBoth l.number true (g.W.Link.seen.view l.fn.wire) (g.W.Link.seen.view l.wire) (g.F.Forward.forward_faults l.fn.forward)
      (g.F.Forward.forward_faults l.forward);
  takes : Taken l.number (standing l.fn.reader.seen l.fn.counts.answered) (g.W.Link.seen.view l.fn.wire).transcript (g.W.Link.seen.view l.wire).transcript (g.F.Forward.asked l.fn.forward) (g.F.Forward.asked l.forward)
      (joined (take (length l.yielded) l.fn.parts.items)) true (standing l.reader.seen l.counts.answered);
}
