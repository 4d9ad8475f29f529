use Rattle.sm_site.specs.Memory.{site_may_leave}
use Rattle.store_rows.proofs.Standing.{log_fewer}
use Rattle.store_rows.proofs.files.body.Goals as goal

pub returns : goal.returns
returns c = record { stands = log_fewer c.args.log.now (site_may_leave c.args.site.now) (site_may_leave c.read.new.disk) c.read.ensures.looks.crash c.requires.stands }
