use Rattle.std.proofs.Common.{true}
use Rattle.sm_promises.proofs.Asking.{become_steps}
use Rattle.sm_promises.proofs.law.each_request_becomes_a_step.Goals as goal

pub returns : goal.returns
returns g c before after found base loop n few =
    become_steps c.wire_of_front.ensures.bytes true loop.first _ loop.faults loop.items loop.steps loop.last loop.run n few
