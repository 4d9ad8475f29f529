use Rattle.std.proofs.Common.{rules, ◌≡◌, true, is_some}
use Rattle.sm_site.specs.Memory.{site_may_leave}
use Rattle.store_rows.proofs.Standing.{log_after_settle}
use Rattle.store_rows.proofs.files.settle_doubt.Goals as goal

pub returns-clause-stands : goal.returns-clause-stands
returns-clause-stands c =
    let some : is_some c.args.log.now.doubt ≡ true = search rules in
    log_after_settle c.args.log.now c.settle.new.self c.settle.result (site_may_leave c.args.site.now) (site_may_leave c.settle.new.disk) some c.settle.ensures.after c.requires.stands
