use Rattle.std.proofs.Common.{◌≡◌, ◌+◌, length}
use Rattle.sm_world.specs.Clients.{HaveCome}
use Rattle.sm_world.proofs.client.have_come.Given as goal

abbrev pub invariant-loop-rest : goal.invariant-loop-rest
invariant-loop-rest l = record {
  all : HaveCome l.number l.rest → HaveCome 1 l.exchanges;
  many : l.number + length l.rest ≡ 1 + length l.exchanges;
}

abbrev pub decreases-loop-rest : goal.decreases-loop-rest
decreases-loop-rest l = length l.rest
