use Rattle.std.specs.Prelude.{false}
use Rattle.sm_push.proofs.Steps.{begins, begins_partial}
use Rattle.sm_push.proofs.session.Push.new.Goals as goal

pub invariant_of-result : goal.invariant_of-result
invariant_of-result c = begins_partial false c.start-kept.result c.start-kept.ensures

pub returns : goal.returns
returns c = begins false c.start-kept.result c.start-kept.ensures
