use Rattle.std.proofs.Common.{None}
use Rattle.sm_model.specs.declared.act.Act.TheVariants.{Fragment as Ask}
use Rattle.sm_origin.specs.Answers.{reply_to_fetched}
use Rattle.sm_serve.proofs.Going.{acted}
use Rattle.sm_serve.proofs.Events.{recalls}
use Rattle.sm_serve.proofs.state.State.recall.Goals as goal

pub returns-clause-runs : goal.returns-clause-runs
returns-clause-runs g c h serves =
    let d = c.args.site.now in
    let e = c.recall.new.disk in
    let one = c.recall.ensures.one in
    let a = acted g.S.Disk.seen g.met.S.Disk.told h d e c.args.self.now.origin (Ask c.args.address.now) (reply_to_fetched h.point.machine.log c.args.address.now c.recall.result) None serves.keeps
    one.told g.met.S.Disk.now_at g.met.S.Disk.calls_told (λ has. one.step has h.point.machine serves.rest.stands) one.stands one.disk_alone.link one.disk_alone.no_fewer in
    recalls g.S.Disk.seen h c.args.address.now c.recall.result c.args.self.now d e serves a
