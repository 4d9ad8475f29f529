use Rattle.sm_client.proofs.Knows.{holds-follows}
use Rattle.sm_client.proofs.standing.Standing.wrote.Goals as goal

pub returns-in-Ok-clause-holds : goal.returns-in-Ok-clause-holds
returns-in-Ok-clause-holds c p q h f = holds-follows c.forget.new.self c.add_all.new.known h f c.forget.ensures.has c.forget.ensures.falls c.in-Ok.ensures
