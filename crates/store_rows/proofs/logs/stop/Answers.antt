use Rattle.sm_site.specs.Memory.{site_may_leave}
use Rattle.store_rows.proofs.Standing.{seg_fewer}
use Rattle.store_rows.proofs.logs.stop.Goals as goal

pub returns : goal.returns
returns c = record { stands = seg_fewer c.args.log.now (site_may_leave c.args.site.now) (site_may_leave c.stop_after.new.self) (λ x left. (c.stop_after.ensures.keeps.crash x).0 left) c.requires.stands }
