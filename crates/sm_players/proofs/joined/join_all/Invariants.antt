use Rattle.std.proofs.Common.{◌≡◌, ◌+◌, ◌≤◌, map, vec_capacity, vec_len}
use Rattle.std.specs.Vec.Iter.{into_iter_items, into_iter_len}
use Rattle.sm_players.specs.Ends.{ends_of}
use Rattle.sm_players.proofs.Joining.{HaveJoined}
use Rattle.sm_players.proofs.joined.join_all.Given as goal

abbrev pub invariant-loop-handle : goal.invariant-loop-handle
invariant-loop-handle g l = record {
  all : vec_len l.ends + into_iter_len l.handle-iterator ≡ into_iter_len l.initial.handle-iterator;
  room : into_iter_len l.initial.handle-iterator ≤ vec_capacity l.ends;
  joined : HaveJoined (map (λ h. h.promise) (into_iter_items l.initial.handle-iterator)) (map (λ h. h.promise) (into_iter_items l.handle-iterator))
      (ends_of g.W.Link.seen.view g.F.Forward.asked l.ends.items);
}
