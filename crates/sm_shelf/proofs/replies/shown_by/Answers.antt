use Rattle.std.proofs.Common.{ap}
use Rattle.sm_reply.specs.declared.reply.Reply.{Reply}
use Rattle.sm_shelf.proofs.Reading.{taken_given}
use Rattle.sm_shelf.proofs.replies.shown_by.Goals as goal

pub returns-in-Ok : goal.returns-in-Ok
returns-in-Ok c d knows taken seen =
    taken_given d c.args.address.now knows c.args.held.now c.in-Some.channel _ taken (seen c.in-Some.channel c.in-Some.is).channel_is (ap (λ (r : Reply). r.bytes) c.in-Ok.ensures)
