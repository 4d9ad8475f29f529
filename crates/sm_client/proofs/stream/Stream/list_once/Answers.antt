use Rattle.sm_client.proofs.Dials.{left-none, left-then, listed-left}
use Rattle.sm_client.proofs.Went.{listed-once}
use Rattle.sm_client.proofs.stream.Stream.list_once.Goals as goal

pub returns-clause-listed : goal.returns-clause-listed
returns-clause-listed g c = rw (← c.rest.ensures.log) (listed-once c.args.self.now.plan.now c.args.self.now.name.now c.listed_of.result c.get_manifest-got.ensures.asked c.listed_of.ensures)

pub returns-clause-dial : goal.returns-clause-dial
returns-clause-dial g c =
    let e = c.get_manifest-got.ensures in
    left-then g.met.C.Dial.later_then (left-none c.rest.ensures.dial) (listed-left c.args.self.now.name.now c.listed_of.result e.dial e.lost c.listed_of.ensures)
