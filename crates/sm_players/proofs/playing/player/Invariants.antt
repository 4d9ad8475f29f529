use Rattle.std.proofs.Common.{◌≤◌, false, IfSome}
use Rattle.sm_players.specs.Taking.{standing}
use Rattle.sm_players.specs.Open.{AreOpen}
use Rattle.sm_players.proofs.Ending.{Played}
use Rattle.sm_players.proofs.playing.player.Given as goal

abbrev pub invariant-loop : goal.invariant-loop
invariant-loop g l = record {
  open_ : IfSome (g.W.Link.seen.view l.wire).transcript (λ items. AreOpen items l.lives.items);
  link_faults : (g.W.Link.seen.view l.fn.wire).link_faults ≤ (g.W.Link.seen.view l.wire).link_faults;
  later : g.F.Forward.forward_faults l.fn.forward ≤ g.F.Forward.forward_faults l.forward;
  plays : Played l.fn.reader.seen (g.W.Link.seen.view l.fn.wire).transcript (g.W.Link.seen.view l.wire).transcript (g.F.Forward.asked l.fn.forward) (g.F.Forward.asked l.forward) l.counter l.lives.items false
      (standing l.reader.seen l.counts.answered);
}
