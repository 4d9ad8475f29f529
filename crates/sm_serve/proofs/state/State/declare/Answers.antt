use Rattle.std.proofs.Common.{None, refl}
use Rattle.sm_model.specs.declared.act.Act.TheVariants.{Header}
use Rattle.sm_origin.specs.Answers.{reply_to_header}
use Rattle.sm_serve.proofs.Going.{acted}
use Rattle.sm_serve.proofs.Events.{declares}
use Rattle.sm_serve.proofs.state.State.declare.Goals as goal

pub returns-clause-runs : goal.returns-clause-runs
returns-clause-runs g c h serves =
    let d = c.args.site.now in
    let e = c.declare.new.site in
    let one = c.declare.ensures.one in
    let a = acted g.S.Disk.seen g.met.S.Disk.told h d e c.declare.new.self (Header c.args.channel.now) (reply_to_header c.declare.result) None serves.keeps one.told
    g.met.S.Disk.now_at g.met.S.Disk.calls_told (λ has. one.step has h.point.machine serves.rest.stands) one.stands one.disk_alone.link one.disk_alone.no_fewer in
    declares g.S.Disk.seen h c.args.channel.now c.declare.result c.args.self.now _ d e serves refl a
