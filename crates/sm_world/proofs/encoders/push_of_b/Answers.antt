use Rattle.sm_world.proofs.Bodies.{body_by_b}
use Rattle.sm_world.proofs.encoders.push_of_b.Goals as goal

pub returns : goal.returns
returns c = body_by_b c.args.header.now c.in_ok-body.body.items c.add.new.body.items c.in_ok-vec.field-0.items c.args.time c.args.duration c.in_ok-fragment.fragment
    (c.in_ok-body.ensures.items_if_clones_equal (λ x y e. e)) c.in_ok-add.ensures c.in_ok-fragment.ensures (c.in_ok-vec.ensures.items_if_clones_equal (λ y e. e))
