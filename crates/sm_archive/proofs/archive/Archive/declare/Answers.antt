use Rattle.sm_site.proofs.Recording.{recorded_none}
use Rattle.sm_archive.proofs.Declarings.{declared_again}
use Rattle.sm_archive.proofs.archive.Archive.declare.Goals as goal

pub returns-in-Ok-clause-stands : goal.returns-in-Ok-clause-stands
returns-in-Ok-clause-stands g c =
    let h = c.requires.stands in
    declared_again _ (g.D.Disk.seen.may_leave c.declare_with.new.disk) c.declare_with.new.self h.0 h.1 c.args.channel.now c.declare_with.result (c.declare_with.ensures.step h.0 h.1 h.2)

pub returns-in-Err-clause-recorded : goal.returns-in-Err-clause-recorded
returns-in-Err-clause-recorded g c = recorded_none (g.D.Disk.seen.view c.args.disk.now)
