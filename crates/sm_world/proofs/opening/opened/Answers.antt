use Rattle.std.proofs.Common.{Option, subst}
use Rattle.sm_serve.specs.declared.state.State.{State}
use Rattle.sm_world.specs.Worlds.{IsClosed, Stands}
use Rattle.sm_world.proofs.Standing.{opens}
use Rattle.sm_world.proofs.Calls.{never_fails}
use Rattle.sm_world.proofs.opening.opened.Goals as goal

pub returns-in-Ok-clause-opened : goal.returns-in-Ok-clause-opened
returns-in-Ok-clause-opened g c w stands =
    let d = c.args.site.now in
    let e = c.start.new.site in
    let closed : IsClosed g.S.Disk.seen w d =
    subst (λ (o : Option State). Stands g.S.Disk.seen w o d) c.in-None.is stands
    in
    opens g.S.Disk.seen c.stores_have_one_reading.ensures.one_list c.bodies_have_one_log.ensures w d e c.in-Ok.state
    (g.met.S.Crashing.tells d).contents (g.met.S.Disk.contents_pass d) c.in-Ok.ensures.opens.store c.in-Ok.ensures.begins
    (g.met.S.Crashing.tells e).contents c.in-Ok.ensures.opens.disk_alone.link.transcript closed

pub returns-in-Err-clause-never : goal.returns-in-Err-clause-never
returns-in-Err-clause-never g c w stands at is =
    let d = c.args.site.now in
    let closed : IsClosed g.S.Disk.seen w d =
    subst (λ (o : Option State). Stands g.S.Disk.seen w o d) c.in-None.is stands
    in
    never_fails g.S.Disk.seen c.stores_have_one_reading.ensures.one_list c.stores_have_one_reading.ensures.no_fault
    c.bodies_have_one_log.ensures w d at (g.met.S.Crashing.tells d).contents (g.met.S.Disk.contents_pass d) closed (c.in-Err.ensures.opens.refused at is)
