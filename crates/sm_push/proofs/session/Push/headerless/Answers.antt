use Rattle.std.specs.Prelude.{true}
use Rattle.sm_push.proofs.Steps.{begins, begins_partial}
use Rattle.sm_push.proofs.session.Push.headerless.Goals as goal

pub invariant_of-result : goal.invariant_of-result
invariant_of-result c = begins_partial true c.start-kept.result c.start-kept.ensures

pub returns : goal.returns
returns c = begins true c.start-kept.result c.start-kept.ensures
