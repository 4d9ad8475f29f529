use Rattle.sm_client.proofs.Knows.{knows-more, knows-past}
use Rattle.sm_client.proofs.standing.add_from.Goals as goal

pub returns-then-start-expected : goal.returns-then-start-expected
returns-then-start-expected c all r = knows-past c.args.start r c.if-start-expected.true

pub returns-in-Ok : goal.returns-in-Ok
returns-in-Ok c all r = knows-more c.args.start _ r c.if-start-expected.false c.in-Ok.ensures.falls c.in-Ok.ensures.has
