use Rattle.std.proofs.Common.{rules, ◌≡◌, true, is_some}
use Rattle.sm_site.specs.Memory.{site_may_leave}
use Rattle.store_rows.proofs.Standing.{seg_after_settle}
use Rattle.store_rows.proofs.logs.settle_doubt.Goals as goal

pub returns : goal.returns
returns c =
    let some : is_some c.args.log.now.last.doubt ≡ true = search rules in
    record { stands = seg_after_settle c.args.log.now c.settle.new.self c.settle.result (site_may_leave c.args.site.now) (site_may_leave c.settle.new.disk) some c.settle.ensures.after c.requires.stands }
