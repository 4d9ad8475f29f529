use Rattle.std.proofs.Common.{◌∙◌, arith}
use Rattle.sm_command.proofs.Starting.{found}
use Rattle.sm_command.proofs.Lasting.{opened_spared}
use Rattle.sm_command.proofs.start.start.Goals as goal

pub returns-in-Ok-clause-found : goal.returns-in-Ok-clause-found
returns-in-Ok-clause-found g c = found g.S.Disk.seen c.in-Ok.state c.args.site.now c.start.new.site c.in-Ok.ensures.opens.opened c.in-Ok.ensures.opens.store (c.in-Ok.ensures.opens.limits ∙ c.standard.ensures)

pub returns-in-Err-NoMemory-clause-why : goal.returns-in-Err-NoMemory-clause-why
returns-in-Err-NoMemory-clause-why g c =
    let link = c.in-Err-NoMemory.ensures.opens.disk_alone.link.link_faults in record { disk = c.in-Err-NoMemory.ensures.opens.disk_alone.no_fewer; link = omega (arith, link) }

pub returns-in-Ok-clause-spared : goal.returns-in-Ok-clause-spared
returns-in-Ok-clause-spared g c = opened_spared g.S.Disk.seen c.args.site.now c.start.new.site c.in-Ok.ensures.opens.spared

pub returns-in-Err-DiskFault-clause-spared : goal.returns-in-Err-DiskFault-clause-spared
returns-in-Err-DiskFault-clause-spared g c = opened_spared g.S.Disk.seen c.args.site.now c.start.new.site c.in-Err-DiskFault.ensures.opens.spared

pub returns-in-Err-NotAStore-clause-spared : goal.returns-in-Err-NotAStore-clause-spared
returns-in-Err-NotAStore-clause-spared g c = opened_spared g.S.Disk.seen c.args.site.now c.start.new.site c.in-Err-NotAStore.ensures.opens.spared

pub returns-in-Err-NoMemory-clause-spared : goal.returns-in-Err-NoMemory-clause-spared
returns-in-Err-NoMemory-clause-spared g c = opened_spared g.S.Disk.seen c.args.site.now c.start.new.site c.in-Err-NoMemory.ensures.opens.spared
