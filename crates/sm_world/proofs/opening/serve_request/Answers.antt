use Rattle.std.proofs.Common.{Some, arith}
use Rattle.sm_world.proofs.Standing.{serves_on}
use Rattle.sm_world.proofs.Calls.{grows_not, handed, rose_from, served_all}
use Rattle.sm_world.specs.declared.acted.Acted.TheVariants as acted
use Rattle.sm_world.specs.Wider.{tells_but, tells_then}
use Rattle.sm_world.proofs.Answered.{goes_out}
use Rattle.sm_world.proofs.Speaking.{says_nothing, says_sent, tells_served}
use Rattle.sm_world.proofs.opening.serve_request.Goals as goal

pub serve-requires-clause-stands : goal.serve-requires-clause-stands
serve-requires-clause-stands g c =
    let kept = c.bring.ensures.stays c.requires.stands.0 c.args.state.now c.requires.stands.1 in
    (kept.run.point.machine, kept.serves.rest.stands)

pub serve-requires-clause-known : goal.serve-requires-clause-known
serve-requires-clause-known g c some =
    let kept = c.bring.ensures.stays c.requires.stands.0 c.args.state.now c.requires.stands.1 in
    (kept.run, kept.serves)

pub returns-in-None-clause-goes_on : goal.returns-in-None-clause-goes_on
returns-in-None-clause-goes_on g c w open_ = (w, c.bring.ensures.stays w c.args.state.now open_, grows_not w)

pub returns-in-Done-clause-goes_on : goal.returns-in-Done-clause-goes_on
returns-in-Done-clause-goes_on g c w open_ =
    serves_on g.S.Disk.seen w c.args.state.now c.bring.new.site c.serve.new.state c.serve.new.site
    (g.met.S.Crashing.tells c.bring.new.site).contents (g.met.S.Crashing.tells c.serve.new.site).contents
    c.serve.ensures.goes_on (c.bring.ensures.stays w c.args.state.now open_)

pub returns-in-LinkFault-clause-goes_on : goal.returns-in-LinkFault-clause-goes_on
returns-in-LinkFault-clause-goes_on g c w open_ =
    serves_on g.S.Disk.seen w c.args.state.now c.bring.new.site c.serve.new.state c.serve.new.site
    (g.met.S.Crashing.tells c.bring.new.site).contents (g.met.S.Crashing.tells c.serve.new.site).contents
    c.serve.ensures.goes_on (c.bring.ensures.stays w c.args.state.now open_)

pub returns-in-NoMemory-clause-goes_on : goal.returns-in-NoMemory-clause-goes_on
returns-in-NoMemory-clause-goes_on g c w open_ =
    serves_on g.S.Disk.seen w c.args.state.now c.bring.new.site c.serve.new.state c.serve.new.site
    (g.met.S.Crashing.tells c.bring.new.site).contents (g.met.S.Crashing.tells c.serve.new.site).contents
    c.serve.ensures.goes_on (c.bring.ensures.stays w c.args.state.now open_)

pub returns-in-Done-clause-cause : goal.returns-in-Done-clause-cause
returns-in-Done-clause-cause g c =
    let kept = c.bring.ensures.stays c.requires.stands.0 c.args.state.now c.requires.stands.1 in
    let brought = c.in-Some.ensures.brings in
    handed g.S.Disk.seen (Some c.args.state.now) c.serve.new.state
    c.args.site.now c.bring.new.site c.serve.new.site c.args.request.now c.in-Some.conn c.sent_on.result
    c.sent_on.ensures c.in-Some.ensures.first
    (λ bytes sent. goes_out g.S.Disk.seen kept.run c.args.state.now c.args.site.now c.bring.new.site c.serve.new.state c.serve.new.site
    (g.S.Link.numbers c.args.site.now) c.in-Some.conn c.args.request.now brought.0 bytes (g.met.S.Crashing.tells c.args.site.now).script
    c.in-Some.ensures.above c.in-Some.ensures.live c.in-Some.ensures.sent c.bring.ensures.view.transcript brought.1 brought.2 sent
    kept.serves c.in-Done.turns c.in-Done.behind c.in-Done.short 18446744073709551615 (omega arith) (c.in-Done.ensures.runs kept.run kept.serves)
    (c.serve.ensures.goes_on kept.run kept.serves))
    brought
    (served_all g.S.Disk.seen kept.run c.in-Done.turns c.in-Done.behind c.in-Done.short 18446744073709551615
    c.serve.new.state c.serve.new.site (omega arith) (c.in-Done.ensures.runs kept.run kept.serves))

pub returns-in-None-clause-says : goal.returns-in-None-clause-says
returns-in-None-clause-says g c w open_ =
    says_nothing g.S.Disk.seen w c.args.site.now c.args.request.now acted.NoMemory (Some c.args.state.now) c.bring.new.site (λ log. tt)
    (w, c.bring.ensures.stays w c.args.state.now open_, grows_not w)

pub returns-in-Done-clause-says : goal.returns-in-Done-clause-says
returns-in-Done-clause-says g c w open_ =
    let brought = c.in-Some.ensures.brings in
    says_sent g.S.Disk.seen w c.args.state.now c.args.site.now c.bring.new.site c.serve.new.state c.serve.new.site
    (g.S.Link.numbers c.args.site.now) c.in-Some.conn c.args.request.now brought.0 c.sent_on.result (g.met.S.Crashing.tells c.bring.new.site).contents
    (g.met.S.Crashing.tells c.serve.new.site).contents (g.met.S.Disk.contents_pass c.serve.new.site) (g.met.S.Crashing.tells c.args.site.now).script
    c.in-Some.ensures.above c.in-Some.ensures.live c.in-Some.ensures.sent c.bring.ensures.view.transcript brought.1 brought.2 c.sent_on.ensures
    c.serve.ensures.goes_on c.bring.ensures.view.disk_faults (c.bring.ensures.stays w c.args.state.now open_)

pub returns-in-LinkFault-clause-says : goal.returns-in-LinkFault-clause-says
returns-in-LinkFault-clause-says g c w open_ =
    says_nothing g.S.Disk.seen w c.args.site.now c.args.request.now acted.Broken (Some c.serve.new.state) c.serve.new.site
    (λ log. rose_from (g.S.Disk.seen.view c.args.site.now).link_faults (g.S.Disk.seen.view c.bring.new.site).link_faults (g.S.Disk.seen.view c.serve.new.site).link_faults
    c.bring.ensures.view.link_faults (c.serve.ensures.link_fault c.in-LinkFault.is))
    (serves_on g.S.Disk.seen w c.args.state.now c.bring.new.site c.serve.new.state c.serve.new.site
    (g.met.S.Crashing.tells c.bring.new.site).contents (g.met.S.Crashing.tells c.serve.new.site).contents
    c.serve.ensures.goes_on (c.bring.ensures.stays w c.args.state.now open_))

pub returns-in-NoMemory-clause-says : goal.returns-in-NoMemory-clause-says
returns-in-NoMemory-clause-says g c w open_ =
    says_nothing g.S.Disk.seen w c.args.site.now c.args.request.now acted.NoMemory (Some c.serve.new.state) c.serve.new.site (λ log. tt)
    (serves_on g.S.Disk.seen w c.args.state.now c.bring.new.site c.serve.new.state c.serve.new.site
    (g.met.S.Crashing.tells c.bring.new.site).contents (g.met.S.Crashing.tells c.serve.new.site).contents
    c.serve.ensures.goes_on (c.bring.ensures.stays w c.args.state.now open_))

pub returns-in-None-clause-tells : goal.returns-in-None-clause-tells
returns-in-None-clause-tells g c = tells_but (g.S.Disk.seen.view c.args.site.now) (g.S.Disk.seen.view c.bring.new.site) c.bring.ensures.view

pub returns-in-Done-clause-tells : goal.returns-in-Done-clause-tells
returns-in-Done-clause-tells g c =
    tells_then (g.S.Disk.seen.view c.args.site.now) (g.S.Disk.seen.view c.bring.new.site) (g.S.Disk.seen.view c.serve.new.site)
    (tells_but (g.S.Disk.seen.view c.args.site.now) (g.S.Disk.seen.view c.bring.new.site) c.bring.ensures.view)
    (tells_served g.S.Disk.seen c.requires.stands.0 c.args.state.now c.bring.new.site c.serve.new.state c.serve.new.site
    c.serve.ensures.goes_on c.serve.ensures.link_faults (c.bring.ensures.stays c.requires.stands.0 c.args.state.now c.requires.stands.1))

pub returns-in-LinkFault-clause-tells : goal.returns-in-LinkFault-clause-tells
returns-in-LinkFault-clause-tells g c =
    tells_then (g.S.Disk.seen.view c.args.site.now) (g.S.Disk.seen.view c.bring.new.site) (g.S.Disk.seen.view c.serve.new.site)
    (tells_but (g.S.Disk.seen.view c.args.site.now) (g.S.Disk.seen.view c.bring.new.site) c.bring.ensures.view)
    (tells_served g.S.Disk.seen c.requires.stands.0 c.args.state.now c.bring.new.site c.serve.new.state c.serve.new.site
    c.serve.ensures.goes_on c.serve.ensures.link_faults (c.bring.ensures.stays c.requires.stands.0 c.args.state.now c.requires.stands.1))

pub returns-in-NoMemory-clause-tells : goal.returns-in-NoMemory-clause-tells
returns-in-NoMemory-clause-tells g c =
    tells_then (g.S.Disk.seen.view c.args.site.now) (g.S.Disk.seen.view c.bring.new.site) (g.S.Disk.seen.view c.serve.new.site)
    (tells_but (g.S.Disk.seen.view c.args.site.now) (g.S.Disk.seen.view c.bring.new.site) c.bring.ensures.view)
    (tells_served g.S.Disk.seen c.requires.stands.0 c.args.state.now c.bring.new.site c.serve.new.state c.serve.new.site
    c.serve.ensures.goes_on c.serve.ensures.link_faults (c.bring.ensures.stays c.requires.stands.0 c.args.state.now c.requires.stands.1))
