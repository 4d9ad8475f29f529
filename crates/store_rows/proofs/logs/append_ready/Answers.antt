use Rattle.sm_site.specs.Memory.{site_may_leave}
use Rattle.sm_seglog.proofs.Standing.{stands_sure}
use Rattle.store_rows.proofs.Standing.{seg_appended}
use Rattle.store_rows.proofs.logs.append_ready.Goals as goal

pub returns : goal.returns
returns c =
    let h = c.requires.stands in
    record {
      stands = seg_appended h.0 c.args.body.now c.append.result c.append.new.self (site_may_leave c.append.new.disk)
          (c.append.ensures.after h.0 (stands_sure c.args.log.now h.0 h.1 (site_may_leave c.args.site.now) c.requires.no_doubt h.2));
    }
