use Rattle.std.proofs.Common.{None, Some, Err, refl, ap}
use Rattle.sm_archive.specs.declared.opened.OpenFault.{OpenFault}
use Rattle.sm_world.specs.declared.acted.Acted.TheVariants as acted
use Rattle.sm_world.specs.Wider.{tells_link, tells_then}
use Rattle.sm_world.proofs.Calls.{cause_before, grows_not}
use Rattle.sm_world.proofs.Speaking.{says_before, says_nothing}
use Rattle.sm_world.proofs.opening.ask.Goals as goal

pub returns-in-Ok-clause-says : goal.returns-in-Ok-clause-says
returns-in-Ok-clause-says g c w stands =
    says_before g.S.Disk.seen w c.args.site.now c.opened.new.site c.serve_request-acted.new.site c.args.request.now c.serve_request-acted.result (Some c.serve_request-acted.new.state)
    (tells_link (g.S.Disk.seen.view c.args.site.now) (g.S.Disk.seen.view c.opened.new.site) c.in-Ok.ensures.disk_alone.no_fewer c.in-Ok.ensures.disk_alone.link)
    (c.serve_request-acted.ensures.says w (c.in-Ok.ensures.opened w stands))

pub returns-in-Err-DiskFault-clause-says : goal.returns-in-Err-DiskFault-clause-says
returns-in-Err-DiskFault-clause-says g c w stands =
    says_nothing g.S.Disk.seen w c.args.site.now c.args.request.now acted.Unopened None c.opened.new.site
    (λ log. c.in-Err-DiskFault.ensures.fault (ap (λ (e : OpenFault). Err e) c.in-Err-DiskFault.field-0-is))
    (w, c.in-Err-DiskFault.ensures.refused w stands, grows_not w)

pub returns-in-Err-NotAStore-clause-says : goal.returns-in-Err-NotAStore-clause-says
returns-in-Err-NotAStore-clause-says g c w stands =
    says_nothing g.S.Disk.seen w c.args.site.now c.args.request.now acted.Unopened None c.opened.new.site
    (λ log. absurd (c.in-Err-NotAStore.ensures.never w stands _ (ap (λ (e : OpenFault). Err e) c.in-Err-NotAStore.field-0-is)))
    (w, c.in-Err-NotAStore.ensures.refused w stands, grows_not w)

pub returns-in-Err-NoMemory-clause-says : goal.returns-in-Err-NoMemory-clause-says
returns-in-Err-NoMemory-clause-says g c w stands =
    says_nothing g.S.Disk.seen w c.args.site.now c.args.request.now acted.NoMemory None c.opened.new.site (λ log. tt)
    (w, c.in-Err-NoMemory.ensures.refused w stands, grows_not w)

pub returns-in-Ok-clause-cause : goal.returns-in-Ok-clause-cause
returns-in-Ok-clause-cause g c =
    cause_before g.S.Disk.seen c.args.state (Some c.serve_request-acted.new.state) c.in-Ok.state c.args.site.now c.opened.new.site c.serve_request-acted.new.site
    c.args.request.now c.serve_request-acted.result c.in-Ok.ensures.disk_alone.link c.serve_request-acted.ensures.cause

pub returns-in-Ok-clause-tells : goal.returns-in-Ok-clause-tells
returns-in-Ok-clause-tells g c =
    tells_then (g.S.Disk.seen.view c.args.site.now) (g.S.Disk.seen.view c.opened.new.site) (g.S.Disk.seen.view c.serve_request-acted.new.site)
    (tells_link (g.S.Disk.seen.view c.args.site.now) (g.S.Disk.seen.view c.opened.new.site) c.in-Ok.ensures.disk_alone.no_fewer c.in-Ok.ensures.disk_alone.link) c.serve_request-acted.ensures.tells

pub returns-in-Err-DiskFault-clause-tells : goal.returns-in-Err-DiskFault-clause-tells
returns-in-Err-DiskFault-clause-tells g c =
    tells_link (g.S.Disk.seen.view c.args.site.now) (g.S.Disk.seen.view c.opened.new.site) c.in-Err-DiskFault.ensures.disk_alone.no_fewer c.in-Err-DiskFault.ensures.disk_alone.link

pub returns-in-Err-NotAStore-clause-tells : goal.returns-in-Err-NotAStore-clause-tells
returns-in-Err-NotAStore-clause-tells g c =
    tells_link (g.S.Disk.seen.view c.args.site.now) (g.S.Disk.seen.view c.opened.new.site) c.in-Err-NotAStore.ensures.disk_alone.no_fewer c.in-Err-NotAStore.ensures.disk_alone.link

pub returns-in-Err-NoMemory-clause-tells : goal.returns-in-Err-NoMemory-clause-tells
returns-in-Err-NoMemory-clause-tells g c =
    tells_link (g.S.Disk.seen.view c.args.site.now) (g.S.Disk.seen.view c.opened.new.site) c.in-Err-NoMemory.ensures.disk_alone.no_fewer c.in-Err-NoMemory.ensures.disk_alone.link

pub returns-in-Err-DiskFault-clause-cause : goal.returns-in-Err-DiskFault-clause-cause
returns-in-Err-DiskFault-clause-cause g c =
    (c.in-Err-DiskFault.ensures.closed, refl, c.in-Err-DiskFault.ensures.fault (ap (λ (e : OpenFault). Err e) c.in-Err-DiskFault.field-0-is))

pub returns-in-Err-NotAStore-clause-cause : goal.returns-in-Err-NotAStore-clause-cause
returns-in-Err-NotAStore-clause-cause g c =
    absurd (c.in-Err-NotAStore.ensures.never c.requires.stands.0 c.requires.stands.1 _ (ap (λ (e : OpenFault). Err e) c.in-Err-NotAStore.field-0-is))
