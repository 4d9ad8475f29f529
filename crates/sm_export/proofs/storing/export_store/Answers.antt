use Rattle.std.proofs.Common.{refl}
use Rattle.sm_command.proofs.Lasting.{chosen_keeps, chosen_one, only_keeps, only_one, silent_then}
use Rattle.sm_command.proofs.Starting.{unopened_chosen}
use Rattle.sm_export.proofs.Opened.{chosen_comes, chosen_for}
use Rattle.sm_export.proofs.storing.export_store.Goals as goal

pub returns-in-Ok-clause-any_moment : goal.returns-in-Ok-clause-any_moment
returns-in-Ok-clause-any_moment g c log one =
    chosen_one g.S.Disk.seen log c.args.site.now c.choose.new.site c.export_disk.new.disk c.choose.ensures.only one c.export_disk.ensures.any_moment

pub returns-in-Err-clause-any_moment : goal.returns-in-Err-clause-any_moment
returns-in-Err-clause-any_moment g c log one = only_one g.S.Disk.seen log c.args.site.now c.choose.new.site c.choose.ensures.only one

pub returns-in-Ok-clause-stores : goal.returns-in-Ok-clause-stores
returns-in-Ok-clause-stores g c =
    chosen_keeps g.S.Disk.seen g.met.S.Disk.at_now c.args.site.now c.choose.new.site c.export_disk.new.disk _ c.choose.ensures.only
    c.export_disk.ensures.any_moment (λ r. c.export_disk.ensures.untouched r.0 r.1) c.export_disk.ensures.spared c.export_disk.ensures.disk_alone

pub returns-in-Err-clause-stores : goal.returns-in-Err-clause-stores
returns-in-Err-clause-stores g c = only_keeps g.S.Disk.seen g.met.S.Disk.at_now c.args.site.now c.choose.new.site _ c.choose.ensures.only

pub returns-in-Ok-clause-silent : goal.returns-in-Ok-clause-silent
returns-in-Ok-clause-silent g c =
    silent_then (g.S.Disk.seen.view c.args.site.now) (g.S.Disk.seen.view c.choose.new.site) (g.S.Disk.seen.view c.export_disk.new.disk)
    c.choose.ensures.only.silent c.export_disk.ensures.disk_alone

pub returns-in-Err-clause-silent : goal.returns-in-Err-clause-silent
returns-in-Err-clause-silent g c = c.choose.ensures.only.silent

pub returns-in-Ok-clause-means : goal.returns-in-Ok-clause-means
returns-in-Ok-clause-means g c =
    chosen_comes c.args.name.now c.args.bitrate _ _ _ _ _ _ _ c.export_disk.result c.choose.ensures.only.silent.no_fewer.disk c.choose.ensures.only.silent.no_fewer.link c.choose.ensures.only.contents c.export_disk.ensures.means

pub returns-in-Err-clause-means : goal.returns-in-Err-clause-means
returns-in-Err-clause-means g c = (unopened_chosen (g.S.Disk.seen.view c.args.site.now) (g.S.Disk.seen.view c.choose.new.site) c.in-Err.fault c.in-Err.ensures.why, refl, refl)

pub returns-in-Ok-clause-chosen : goal.returns-in-Ok-clause-chosen
returns-in-Ok-clause-chosen g c =
    chosen_for c.export_disk.result _ (g.S.Disk.seen.view c.args.site.now) (g.S.Disk.seen.view c.choose.new.site)
    (g.S.Disk.seen.view c.export_disk.new.disk) c.in-Ok.ensures.chosen c.export_disk.ensures.disk_alone.link.chosen
