use Rattle.std.proofs.Common.{rules}
use Rattle.sm_archive.specs.Store.{IsStore}
use Rattle.sm_site.proofs.Moments.{and_then, weakened}
use Rattle.sm_command.proofs.Lasting.{found_spared, one_here}
use Rattle.sm_command.proofs.Lines.{list_of, put_is_placed, unlisted_unopened, why_of}
use Rattle.sm_command.proofs.listing.list_disk.Goals as goal

pub lines-requires : goal.lines-requires
lines-requires g c = record { stands = (c.in_ok-archive.ensures.opened.log, c.in_ok-archive.ensures.opened.stands) }

pub returns-clause-listed : goal.returns-clause-listed
returns-clause-listed g c =
    list_of g.D.Disk.seen c.args.disk.now c.open_archive.new.disk c.in_ok-archive.archive c.lines.result c.in_ok-archive.ensures.opened c.in_ok-archive.ensures.told c.lines.ensures.lines

pub returns-clause-why : goal.returns-clause-why
returns-clause-why g c = search (rules, why_of)

pub returns-clause-any_moment : goal.returns-clause-any_moment
returns-clause-any_moment g c log one =
    and_then g.D.Disk.seen c.args.disk.now c.open_archive.new.disk c.lines.new.disk (λ t x. IsStore log x) (c.in_ok-archive.ensures.any_moment log one)
    (weakened g.D.Disk.seen c.open_archive.new.disk c.lines.new.disk _ (λ t x. IsStore log x) c.lines.ensures.any_moment (λ t x left. one_here log _ (c.in_ok-archive.ensures.stays log one) x left))

pub returns-clause-untouched : goal.returns-clause-untouched
returns-clause-untouched g c at is =
    absurd (put_is_placed (g.D.Disk.seen.view c.open_archive.new.disk) (g.D.Disk.seen.view c.lines.new.disk) c.lines.result c.lines.ensures.why at is)

pub returns-in_err-archive-clause-why : goal.returns-in_err-archive-clause-why
returns-in_err-archive-clause-why g c = search (rules, unlisted_unopened)

pub returns-clause-spared : goal.returns-clause-spared
returns-clause-spared g c = found_spared g.D.Disk.seen c.in_ok-archive.ensures.opened.log c.args.disk.now c.lines.new.disk c.in_ok-archive.ensures.opened.store
