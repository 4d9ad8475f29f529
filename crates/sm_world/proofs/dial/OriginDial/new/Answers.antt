use Rattle.std.proofs.Common.{[], arith}
use Rattle.sm_world.proofs.Calls.{begins_closed, some_world}
use Rattle.sm_world.proofs.dial.OriginDial.new.Goals as goal

pub invariant_of-result : goal.invariant_of-result
invariant_of-result g c =
    let tells = g.met.S.Crashing.tells c.args.site in (
      c.requires.bytes,
      c.requires.entries,
      some_world g.S.Disk.seen c.args.site [] tells.contents tells.transcript c.requires.settled c.requires.store,
      omega arith,
    )

pub returns-clause-stands : goal.returns-clause-stands
returns-clause-stands g c log store =
    let tells = g.met.S.Crashing.tells c.args.site in
    begins_closed g.S.Disk.seen c.args.site log (g.S.Crashing.openings c.args.site) tells.contents tells.transcript
    c.requires.settled store
