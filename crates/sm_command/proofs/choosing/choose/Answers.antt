use Rattle.sm_command.proofs.Lasting.{selected_only}
use Rattle.sm_command.proofs.choosing.choose.Goals as goal

pub returns-in-Ok-clause-only : goal.returns-in-Ok-clause-only
returns-in-Ok-clause-only g c =
    selected_only g.S.Disk.seen c.args.site.now c.select.new.self c.select.ensures.contents c.select.ensures.transcript c.select.ensures.send_faults
    c.select.ensures.disk_faults c.select.ensures.link_faults c.select.ensures.time c.select.ensures.crash

pub returns-in-Err-Disk-clause-only : goal.returns-in-Err-Disk-clause-only
returns-in-Err-Disk-clause-only g c =
    selected_only g.S.Disk.seen c.args.site.now c.select.new.self c.select.ensures.contents c.select.ensures.transcript c.select.ensures.send_faults
    c.select.ensures.disk_faults c.select.ensures.link_faults c.select.ensures.time c.select.ensures.crash

pub returns-in-Err-Link-clause-only : goal.returns-in-Err-Link-clause-only
returns-in-Err-Link-clause-only g c =
    selected_only g.S.Disk.seen c.args.site.now c.select.new.self c.select.ensures.contents c.select.ensures.transcript c.select.ensures.send_faults
    c.select.ensures.disk_faults c.select.ensures.link_faults c.select.ensures.time c.select.ensures.crash

pub returns-in-Err-NoMemory-clause-only : goal.returns-in-Err-NoMemory-clause-only
returns-in-Err-NoMemory-clause-only g c =
    selected_only g.S.Disk.seen c.args.site.now c.select.new.self c.select.ensures.contents c.select.ensures.transcript c.select.ensures.send_faults
    c.select.ensures.disk_faults c.select.ensures.link_faults c.select.ensures.time c.select.ensures.crash

pub returns-in-Err-NoMemory-clause-why : goal.returns-in-Err-NoMemory-clause-why
returns-in-Err-NoMemory-clause-why g c = record { disk = c.select.ensures.disk_faults; link = c.select.ensures.link_faults }
