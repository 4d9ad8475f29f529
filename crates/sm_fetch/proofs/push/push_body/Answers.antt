use Rattle.sm_fetch.proofs.Alone.{alone_one}
use Rattle.sm_fetch.proofs.push.push_body.Goals as goal

pub returns-in-Bytes-clause-dial : goal.returns-in-Bytes-clause-dial
returns-in-Bytes-clause-dial g c = let e = c.exchange.ensures in alone_one _ _ c.exchange.result e.goes_on e.later e.chosen e.log e.store

pub returns-in-Lost-clause-dial : goal.returns-in-Lost-clause-dial
returns-in-Lost-clause-dial g c = let e = c.exchange.ensures in alone_one _ _ c.exchange.result e.goes_on e.later e.chosen e.log e.store

pub returns-clause-dial : goal.returns-clause-dial
returns-clause-dial g c = let e = c.exchange.ensures in alone_one _ _ c.exchange.result e.goes_on e.later e.chosen e.log e.store
