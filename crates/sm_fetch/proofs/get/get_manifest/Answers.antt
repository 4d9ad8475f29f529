use Rattle.sm_fetch.proofs.Listed.{got_has_levels}
use Rattle.sm_fetch.proofs.Alone.{alone_one}
use Rattle.sm_fetch.proofs.get.get_manifest.Goals as goal

pub returns-in-Bytes-clause-levels : goal.returns-in-Bytes-clause-levels
returns-in-Bytes-clause-levels g c = got_has_levels c.as_slice-in-Bytes.result.now c.read_listing.result c.read_listing.ensures

pub returns-in-Bytes-clause-dial : goal.returns-in-Bytes-clause-dial
returns-in-Bytes-clause-dial g c = let e = c.exchange.ensures in alone_one _ _ c.exchange.result e.goes_on e.later e.chosen e.log e.store

pub returns-in-Lost-clause-dial : goal.returns-in-Lost-clause-dial
returns-in-Lost-clause-dial g c = let e = c.exchange.ensures in alone_one _ _ c.exchange.result e.goes_on e.later e.chosen e.log e.store

pub returns-clause-dial : goal.returns-clause-dial
returns-clause-dial g c = let e = c.exchange.ensures in alone_one _ _ c.exchange.result e.goes_on e.later e.chosen e.log e.store
