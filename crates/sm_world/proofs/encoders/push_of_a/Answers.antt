use Rattle.sm_world.proofs.Bodies.{body_by_a}
use Rattle.sm_world.proofs.encoders.push_of_a.Goals as goal

pub returns : goal.returns
returns c = body_by_a c.args.header.now c.in_ok-body.body.items c.add.new.body.items c.add-2.new.body.items c.add-3.new.body.items c.args.i c.in_ok-of_encoder_a.field-0
    c.in_ok-of_encoder_a-2.field-0 c.in_ok-of_encoder_a-3.field-0 (c.in_ok-body.ensures.items_if_clones_equal (λ x y e. e)) c.in_ok-add.ensures c.in_ok-add-2.ensures c.in_ok-add-3.ensures
    c.in_ok-of_encoder_a.ensures.0 c.in_ok-of_encoder_a-2.ensures.0 c.in_ok-of_encoder_a-3.ensures.0
