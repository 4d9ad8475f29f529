use Rattle.std.proofs.Common.{◌∙◌, arith}
use Rattle.sm_archive.specs.Store.{IsStore}
use Rattle.sm_site.proofs.Moments.{weakened}
use Rattle.sm_command.proofs.Lasting.{opened_spared, spelled}
use Rattle.sm_command.proofs.Lines.{told_stays}
use Rattle.sm_command.proofs.Opened.{opened}
use Rattle.sm_command.proofs.opening.open_archive.Goals as goal

pub returns-in-Ok-clause-opened : goal.returns-in-Ok-clause-opened
returns-in-Ok-clause-opened g c =
    opened g.D.Disk.seen c.in-Ok.archive c.args.disk.now c.open_store.new.disk c.in-Ok.ensures.opened c.in-Ok.ensures.has c.in-Ok.ensures.store (c.in-Ok.ensures.limits ∙ c.standard.ensures)

pub returns-in-Ok-clause-any_moment : goal.returns-in-Ok-clause-any_moment
returns-in-Ok-clause-any_moment g c log one =
    weakened g.D.Disk.seen c.args.disk.now c.open_store.new.disk _ (λ t x. IsStore log x) (c.in-Ok.ensures.any_moment one.bodies one.each) (λ t x has. spelled log _ one x has)

pub returns-in-Ok-clause-stays : goal.returns-in-Ok-clause-stays
returns-in-Ok-clause-stays g c log one = record { bodies = one.bodies; each = c.in-Ok.ensures.stays one.bodies one.each; spell = one.spell; sound = one.sound }

pub returns-in-Ok-clause-told : goal.returns-in-Ok-clause-told
returns-in-Ok-clause-told g c = told_stays g.D.Disk.seen.view g.met.D.Disk.calls_told c.args.disk.now c.open_store.new.disk c.in-Ok.ensures.recorded

pub returns-in-Err-DiskFault-clause-any_moment : goal.returns-in-Err-DiskFault-clause-any_moment
returns-in-Err-DiskFault-clause-any_moment g c log one =
    weakened g.D.Disk.seen c.args.disk.now c.open_store.new.disk _ (λ t x. IsStore log x) (c.in-Err-DiskFault.ensures.any_moment one.bodies one.each) (λ t x has. spelled log _ one x has)

pub returns-in-Err-DiskFault-clause-stays : goal.returns-in-Err-DiskFault-clause-stays
returns-in-Err-DiskFault-clause-stays g c log one = record { bodies = one.bodies; each = c.in-Err-DiskFault.ensures.stays one.bodies one.each; spell = one.spell; sound = one.sound }

pub returns-in-Err-DiskFault-clause-told : goal.returns-in-Err-DiskFault-clause-told
returns-in-Err-DiskFault-clause-told g c = told_stays g.D.Disk.seen.view g.met.D.Disk.calls_told c.args.disk.now c.open_store.new.disk c.in-Err-DiskFault.ensures.recorded

pub returns-in-Err-NotAStore-clause-any_moment : goal.returns-in-Err-NotAStore-clause-any_moment
returns-in-Err-NotAStore-clause-any_moment g c log one =
    weakened g.D.Disk.seen c.args.disk.now c.open_store.new.disk _ (λ t x. IsStore log x) (c.in-Err-NotAStore.ensures.any_moment one.bodies one.each) (λ t x has. spelled log _ one x has)

pub returns-in-Err-NotAStore-clause-stays : goal.returns-in-Err-NotAStore-clause-stays
returns-in-Err-NotAStore-clause-stays g c log one = record { bodies = one.bodies; each = c.in-Err-NotAStore.ensures.stays one.bodies one.each; spell = one.spell; sound = one.sound }

pub returns-in-Err-NotAStore-clause-told : goal.returns-in-Err-NotAStore-clause-told
returns-in-Err-NotAStore-clause-told g c = told_stays g.D.Disk.seen.view g.met.D.Disk.calls_told c.args.disk.now c.open_store.new.disk c.in-Err-NotAStore.ensures.recorded

pub returns-in-Err-NoMemory-clause-any_moment : goal.returns-in-Err-NoMemory-clause-any_moment
returns-in-Err-NoMemory-clause-any_moment g c log one =
    weakened g.D.Disk.seen c.args.disk.now c.open_store.new.disk _ (λ t x. IsStore log x) (c.in-Err-NoMemory.ensures.any_moment one.bodies one.each) (λ t x has. spelled log _ one x has)

pub returns-in-Err-NoMemory-clause-stays : goal.returns-in-Err-NoMemory-clause-stays
returns-in-Err-NoMemory-clause-stays g c log one = record { bodies = one.bodies; each = c.in-Err-NoMemory.ensures.stays one.bodies one.each; spell = one.spell; sound = one.sound }

pub returns-in-Err-NoMemory-clause-told : goal.returns-in-Err-NoMemory-clause-told
returns-in-Err-NoMemory-clause-told g c = told_stays g.D.Disk.seen.view g.met.D.Disk.calls_told c.args.disk.now c.open_store.new.disk c.in-Err-NoMemory.ensures.recorded

pub returns-in-Err-NoMemory-clause-why : goal.returns-in-Err-NoMemory-clause-why
returns-in-Err-NoMemory-clause-why g c =
    let link = c.in-Err-NoMemory.ensures.disk_alone.link.link_faults in record { disk = c.in-Err-NoMemory.ensures.disk_alone.no_fewer; link = omega (arith, link) }

pub returns-in-Ok-clause-spared : goal.returns-in-Ok-clause-spared
returns-in-Ok-clause-spared g c = opened_spared g.D.Disk.seen c.args.disk.now c.open_store.new.disk c.in-Ok.ensures.spared

pub returns-in-Err-DiskFault-clause-spared : goal.returns-in-Err-DiskFault-clause-spared
returns-in-Err-DiskFault-clause-spared g c = opened_spared g.D.Disk.seen c.args.disk.now c.open_store.new.disk c.in-Err-DiskFault.ensures.spared

pub returns-in-Err-NotAStore-clause-spared : goal.returns-in-Err-NotAStore-clause-spared
returns-in-Err-NotAStore-clause-spared g c = opened_spared g.D.Disk.seen c.args.disk.now c.open_store.new.disk c.in-Err-NotAStore.ensures.spared

pub returns-in-Err-NoMemory-clause-spared : goal.returns-in-Err-NoMemory-clause-spared
returns-in-Err-NoMemory-clause-spared g c = opened_spared g.D.Disk.seen c.args.disk.now c.open_store.new.disk c.in-Err-NoMemory.ensures.spared
