use Rattle.sm_site.specs.Memory.{site_may_leave}
use Rattle.store_rows.proofs.Standing.{log_fewer}
use Rattle.store_rows.proofs.files.stop.Goals as goal

pub returns : goal.returns
returns c = record { stands = log_fewer c.args.log.now (site_may_leave c.args.site.now) (site_may_leave c.stop_after.new.self) (λ x left. (c.stop_after.ensures.keeps.crash x).0 left) c.requires.stands }
