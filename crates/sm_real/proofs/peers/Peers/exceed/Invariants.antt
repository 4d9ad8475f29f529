use Rattle.std.proofs.Common.{◌≡◌, ◌+◌, take}
use Rattle.sm_real.specs.Waiting.{wait_in_all}
use Rattle.sm_real.proofs.peers.Peers.exceed.Given as goal

abbrev pub invariant-loop-peer : goal.invariant-loop-peer
invariant-loop-peer l = l.left + wait_in_all (take l.peer-index l.self.list.items) ≡ l.most
