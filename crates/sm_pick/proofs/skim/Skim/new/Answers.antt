use Rattle.std.specs.Prelude.{true}
use Rattle.sm_push.proofs.Steps.{begins, begins_partial}
use Rattle.sm_pick.proofs.skim.Skim.new.Goals as goal

pub returns-clause-stands : goal.returns-clause-stands
returns-clause-stands c = begins true c.start.result c.start.ensures

pub returns-clause-partial : goal.returns-clause-partial
returns-clause-partial c = begins_partial true c.start.result c.start.ensures
