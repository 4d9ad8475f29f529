use Rattle.std.proofs.Common.{[], false}
use Rattle.sm_wire.proofs.PlainLaw.{items_are, refused_items}
use Rattle.sm_wire.proofs.plain.read_push.Goals as goal

pub returns-then-not-ends-clause-items : goal.returns-then-not-ends-clause-items
returns-then-not-ends-clause-items c = items_are c.args.bytes.now c.in-Ok.items (c.in-Ok.ensures.answers false [] c.new-push.ensures).1

pub returns-in-Ok-end-clause-items : goal.returns-in-Ok-end-clause-items
returns-in-Ok-end-clause-items c = items_are c.args.bytes.now c.in-Ok.items (c.in-Ok.ensures.answers false [] c.new-push.ensures).1

pub returns-in-Err-Refused-end-clause-items : goal.returns-in-Err-Refused-end-clause-items
returns-in-Err-Refused-end-clause-items c = items_are c.args.bytes.now c.in-Ok.items (c.in-Ok.ensures.answers false [] c.new-push.ensures).1

pub returns-in-Err-Refused-clause-items : goal.returns-in-Err-Refused-clause-items
returns-in-Err-Refused-clause-items c =
    let is = rw c.in-Err-Refused.field-0-is at c.in-Err-Refused.ensures.answers false [] c.new-push.ensures in
    let same = refused_items c.args.bytes.now c.in-Err-Refused.before _ c.in-Err-Refused.refusal is in
    cc (same, c.in-Err-Refused.before-is)
