use Rattle.sm_site.proofs.Recording.{recorded_none}
use Rattle.sm_archive.proofs.Keepings.{kept_again}
use Rattle.sm_archive.proofs.archive.Archive.keep.Goals as goal

pub returns-in-Ok-clause-stands : goal.returns-in-Ok-clause-stands
returns-in-Ok-clause-stands g c =
    let h = c.requires.stands in
    kept_again _ (g.D.Disk.seen.may_leave c.keep_at.new.disk) c.keep_at.new.self h.0 h.1 c.args.fragment.now c.keep_at.result (c.keep_at.ensures.step h.0 h.1 h.2)

pub returns-in-Err-clause-recorded : goal.returns-in-Err-clause-recorded
returns-in-Err-clause-recorded g c = recorded_none (g.D.Disk.seen.view c.args.disk.now)
