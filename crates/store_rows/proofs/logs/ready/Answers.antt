use Rattle.sm_site.specs.Memory.{site_may_leave}
use Rattle.store_rows.proofs.Standing.{seg_kept}
use Rattle.store_rows.proofs.logs.ready.Goals as goal

pub returns-clause-stands : goal.returns-clause-stands
returns-clause-stands c = seg_kept c.args.log.now c.reserve.new.self (site_may_leave c.args.site.now) c.reserve.ensures.same c.requires.stands

pub returns-in_err-reserve-clause-stands : goal.returns-in_err-reserve-clause-stands
returns-in_err-reserve-clause-stands c = seg_kept c.args.log.now c.reserve.new.self (site_may_leave c.args.site.now) c.reserve.ensures.same c.requires.stands
