use Rattle.sm_archive.specs.Store.{IsStore}
use Rattle.sm_site.proofs.Moments.{and_then, weakened}
use Rattle.sm_command.proofs.Lasting.{found_spared, one_here}
use Rattle.sm_export.proofs.Opened.{opened_comes, taken_is_opened}
use Rattle.sm_export.proofs.storing.export_disk.Goals as goal

pub export_input-requires : goal.export_input-requires
export_input-requires g c = record { stands = (c.in-Ok.ensures.opened.log, c.in-Ok.ensures.opened.stands) }

pub returns-in-Ok-clause-means : goal.returns-in-Ok-clause-means
returns-in-Ok-clause-means g c =
    let o = c.in-Ok.ensures.opened in
    opened_comes o.log c.args.name.now c.args.bitrate _ _ _ _ _ _ _ c.export_input.result c.in-Ok.ensures.disk_alone.no_fewer c.in-Ok.ensures.told o.store (c.export_input.ensures.means o.log o.stands)

pub returns-in-Ok-clause-any_moment : goal.returns-in-Ok-clause-any_moment
returns-in-Ok-clause-any_moment g c log one =
    and_then g.D.Disk.seen c.args.disk.now c.open_archive.new.disk c.export_input.new.disk (λ t x. IsStore log x) (c.in-Ok.ensures.any_moment log one)
    (weakened g.D.Disk.seen c.open_archive.new.disk c.export_input.new.disk _ (λ t x. IsStore log x) c.export_input.ensures.read.any_moment (λ t x left. one_here log _ (c.in-Ok.ensures.stays log one) x left))

pub returns-in-Ok-clause-untouched : goal.returns-in-Ok-clause-untouched
returns-in-Ok-clause-untouched g c at is =
    let o = c.in-Ok.ensures.opened in
    absurd (taken_is_opened _ o.log c.args.name.now c.args.bitrate _ _ _ _ _ _ c.export_input.result _ (c.export_input.ensures.means o.log o.stands) is)

pub returns-in-Ok-clause-spared : goal.returns-in-Ok-clause-spared
returns-in-Ok-clause-spared g c = found_spared g.D.Disk.seen c.in-Ok.ensures.opened.log c.args.disk.now c.export_input.new.disk c.in-Ok.ensures.opened.store
