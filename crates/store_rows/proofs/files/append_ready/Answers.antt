use Rattle.sm_site.specs.Memory.{site_may_leave}
use Rattle.store_rows.proofs.Standing.{log_appended, log_sure}
use Rattle.store_rows.proofs.files.append_ready.Goals as goal

pub returns-clause-stands : goal.returns-clause-stands
returns-clause-stands c =
    let h = c.requires.stands in
    log_appended h.0 c.args.body.now c.append.result c.append.new.self (site_may_leave c.append.new.disk)
    (c.append.ensures.after h.0 (log_sure h.1 h.0 c.args.log.now (site_may_leave c.args.site.now) c.requires.no_doubt h.2))
