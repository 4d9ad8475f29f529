use Rattle.sm_show.proofs.Resting.{publishes_none, publishes_one}
use Rattle.sm_show.proofs.catching.put.Goals as goal

pub returns-in-Ok-clause-publishes : goal.returns-in-Ok-clause-publishes
returns-in-Ok-clause-publishes g c = publishes_one _ c.args.writer.now c.put.new.self _ c.in-Ok.ensures.ok

pub returns-clause-publishes : goal.returns-clause-publishes
returns-clause-publishes g c = publishes_none _ c.args.writer.now c.put.new.self c.in-Err.ensures.past c.in-Err.ensures.err.0
