use Rattle.sm_wire.proofs.PartLaw.{cut_given}
use Rattle.sm_wire.proofs.plain.cut_push.Goals as goal

pub returns : goal.returns
returns c = cut_given c.args.out.now.items c.give_push.new.out.items c.args.bytes.now c.in_ok-give_push.field-0 c.in_ok-give_push.ensures
