use Rattle.std.proofs.Common.{◌≡◌, ◌<◌, take, IfSome, IfNone, slice_index_or, length}
use Rattle.sm_real.specs.Waiting.{waits, wait_in_all}
use Rattle.sm_real.specs.declared.peer.Peer.{Peer}
use Rattle.sm_real.proofs.peers.Peers.greatest.Given as goal

abbrev pub invariant-loop-place : goal.invariant-loop-place
invariant-loop-place l = record {
  found : IfSome l.found (λ i. (i < length l.self.list.items) × ((p : Peer) → 0 < waits (slice_index_or l.self.list.items i p)));
  none : IfNone l.found ((l.most ≡ 0) × (wait_in_all (take l.place l.self.list.items) ≡ 0));
}
