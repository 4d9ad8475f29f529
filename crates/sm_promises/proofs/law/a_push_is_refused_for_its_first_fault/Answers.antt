use Rattle.std.proofs.Common.{true}
use Rattle.sm_promises.proofs.Refusing.{refused_first}
use Rattle.sm_promises.proofs.law.a_push_is_refused_for_its_first_fault.Goals as goal

pub returns : goal.returns
returns g c before after found base loop n few items fault faulty =
    refused_first c.wire_of_front.ensures.bytes c.wire_of_front.ensures.ends true loop.first _ loop.faults loop.items loop.steps loop.last loop.run n few items fault faulty
