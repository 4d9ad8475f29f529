use Rattle.std.proofs.Common.{◌∷◌, [], map, ap, ◌∙◌, arith}
use Rattle.std.proofs.lemmas.List.{map-append}
use Rattle.std.specs.Vec.Iter.{into_iter_items}
use Rattle.sm_players.specs.Ends.{end_of, ends_of}
use Rattle.sm_players.proofs.Joining.{joined_one}
use Rattle.sm_players.proofs.joined.join_all.Goals as goal

pub loop-handle-preserved : goal.loop-handle-preserved
loop-handle-preserved g c =
    let view = g.W.Link.seen.view in
    let asked = g.F.Forward.asked in
    let was = c.loop-handle.invariant in
    let all = was.all in
    let room = was.room in
    let step = c.in-Some.ensures.steps.1 in
    let len = c.push_reserved.ensures.len in
    let capacity = c.push_reserved.ensures.capacity in
    record {
      all = omega (arith, all, step, len);
      room = omega (arith, room, capacity);
      joined =
          joined_one _ (map (λ h. h.promise) (into_iter_items c.loop-handle.handle-iterator)) (map (λ h. h.promise) (into_iter_items c.next.new.self))
          c.in-Some.handle.promise (end_of view asked c.join.result) (ends_of view asked c.loop-handle.ends.items) (ends_of view asked c.push_reserved.new.self.items)
          (ap (map (λ h. h.promise)) c.in-Some.ensures.steps.0)
          (ap (ends_of view asked) c.push_reserved.ensures.items ∙ map-append (end_of view asked) c.loop-handle.ends.items (c.join.result ∷ []))
          c.join.ensures was.joined;
    }
