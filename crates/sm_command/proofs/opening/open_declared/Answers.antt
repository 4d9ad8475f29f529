use Rattle.std.proofs.Common.{inl, refl}
use Rattle.sm_command.proofs.Opened.{begins_all, begins_so, declared_as, never_placed, undeclared}
use Rattle.sm_command.specs.Opening.{BeginsWith}
use Rattle.sm_archive.specs.Store.{IsStore}
use Rattle.sm_site.proofs.Moments.{weakened}
use Rattle.sm_command.proofs.Lasting.{at_each, found_spared}
use Rattle.sm_ends.proofs.Unread.{passed_on}
use Rattle.sm_command.proofs.Starting.{stated_is}
use Rattle.sm_command.proofs.opening.open_declared.Goals as goal
use Rattle.sm_ends.specs.Ended.{End}

pub declare_input-requires : goal.declare_input-requires
declare_input-requires g c = record { stands = (c.in_ok-archive.ensures.opened.log, c.in_ok-archive.ensures.opened.stands) }

pub returns-clause-declared : goal.returns-clause-declared
returns-clause-declared g c =
    let o = c.in_ok-archive.ensures.opened in
    let before : End = record { told = g.I.Source.left c.args.input.now; faults = g.I.Source.faults c.args.input.now } in
    let behind : End = record { told = g.I.Source.left c.declare_input.new.input; faults = g.I.Source.faults c.declare_input.new.input } in
    declared_as g.D.Disk.seen before behind c.in_ok-archive.archive c.declare_input.new.archive c.args.disk.now c.open_archive.new.disk c.declare_input.new.disk o c.in_ok-archive.ensures.disk_alone.no_fewer
    (c.in_ok-declare_input.ensures.means o.log o.stands) c.in_ok-declare_input.ensures.stands c.declare_input.ensures.limits

pub returns-in_err-archive-clause-why : goal.returns-in_err-archive-clause-why
returns-in_err-archive-clause-why g c =
    passed_on c.from_residual.result _ _ c.from_residual.ensures.1
    (inl (c.in_err-archive.ensures.why, refl, λ log one. at_each g.D.Disk.seen c.args.disk.now c.open_archive.new.disk (λ t x. IsStore log x) (IsStore log) (c.in_err-archive.ensures.any_moment log one) (λ t x store. store)))

pub returns-in_err-declare_input-clause-why : goal.returns-in_err-declare_input-clause-why
returns-in_err-declare_input-clause-why g c =
    let o = c.in_ok-archive.ensures.opened in
    passed_on c.from_residual-in_err-declare_input.result _ _ c.from_residual-in_err-declare_input.ensures.1 (undeclared g.D.Disk.seen _ _ c.in_ok-archive.archive c.declare_input.new.archive
    c.args.disk.now c.open_archive.new.disk c.declare_input.new.disk _ o c.in_ok-archive.ensures.disk_alone.no_fewer (c.in_err-declare_input.ensures.means o.log o.stands))

pub returns-in_err-archive-clause-any_moment : goal.returns-in_err-archive-clause-any_moment
returns-in_err-archive-clause-any_moment g c some log one =
    weakened g.D.Disk.seen c.args.disk.now c.open_archive.new.disk (λ t x. IsStore log x) (λ t x. BeginsWith log x) (c.in_err-archive.ensures.any_moment log one)
    (λ t x store. begins_so log x store)

pub returns-in_err-declare_input-clause-any_moment : goal.returns-in_err-declare_input-clause-any_moment
returns-in_err-declare_input-clause-any_moment g c some log one =
    let o = c.in_ok-archive.ensures.opened in
    begins_all g.D.Disk.seen g.met.D.Disk.contents_pass c.stores_have_one_reading.ensures.one_list c.bodies_have_one_log.ensures
    c.in_ok-archive.archive c.args.disk.now c.open_archive.new.disk c.declare_input.new.disk o c.in_ok-archive.ensures.told log one some (c.in_ok-archive.ensures.any_moment log one)
    (λ told. c.in_err-declare_input.ensures.any_moment o.log o.stands told)

pub returns-clause-any_moment : goal.returns-clause-any_moment
returns-clause-any_moment g c some log one =
    let o = c.in_ok-archive.ensures.opened in
    begins_all g.D.Disk.seen g.met.D.Disk.contents_pass c.stores_have_one_reading.ensures.one_list c.bodies_have_one_log.ensures
    c.in_ok-archive.archive c.args.disk.now c.open_archive.new.disk c.declare_input.new.disk o c.in_ok-archive.ensures.told log one some (c.in_ok-archive.ensures.any_moment log one)
    (λ told. c.in_ok-declare_input.ensures.any_moment o.log o.stands told)

pub returns-in_err-declare_input-clause-untouched : goal.returns-in_err-declare_input-clause-untouched
returns-in_err-declare_input-clause-untouched g c at is =
    let o = c.in_ok-archive.ensures.opened in
    absurd (never_placed g.D.Disk.seen _ _ o.log c.declare_input.new.archive c.open_archive.new.disk c.declare_input.new.disk _ (c.in_err-declare_input.ensures.means o.log o.stands) at
    (stated_is c.from_residual-in_err-declare_input.result _ _ c.from_residual-in_err-declare_input.ensures.1 is))

pub returns-clause-spared : goal.returns-clause-spared
returns-clause-spared g c =
    found_spared g.D.Disk.seen c.in_ok-archive.ensures.opened.log c.args.disk.now c.declare_input.new.disk c.in_ok-archive.ensures.opened.store

pub returns-in_err-declare_input-clause-spared : goal.returns-in_err-declare_input-clause-spared
returns-in_err-declare_input-clause-spared g c =
    found_spared g.D.Disk.seen c.in_ok-archive.ensures.opened.log c.args.disk.now c.declare_input.new.disk c.in_ok-archive.ensures.opened.store
