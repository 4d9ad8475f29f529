use Rattle.std.proofs.Common.{subst}
use Rattle.sm_world.specs.Worlds.{World, Stands, IsClosed, Crashes}
use Rattle.sm_world.proofs.Calls.{empty_told}
use Rattle.sm_world.proofs.Standing.{crashes}
use Rattle.sm_world.proofs.dial.OriginDial.crash.Goals as goal

pub invariant_of-self : goal.invariant_of-self
invariant_of-self g c =
    let i = c.self.invariant in
    let d = c.self.inside.site in
    let e = c.crash_here.new.self in
    let tells = g.met.S.Crashing.tells e in
    let x = crashes g.S.Disk.seen i.2.0 c.self.inside.state d e (g.met.S.Crashing.tells d).contents tells.contents
    c.crash_here.ensures.image c.crash_here.ensures.settled (empty_told (g.S.Disk.seen.view e).transcript tells.transcript c.crash_here.ensures.transcript) i.2.1 in
    (i.0, i.1, (x.0, x.1), i.3)

pub returns-clause-crashes : goal.returns-clause-crashes
returns-clause-crashes g c =
    let d = c.self.inside.site in
    let e = c.crash_here.new.self in
    let tells = g.met.S.Crashing.tells e in
    subst (λ (v : _). (w : World) → Stands g.S.Disk.seen w v.1.state v.0
    → (now : World) × IsClosed g.S.Disk.seen now e × Crashes (g.S.Disk.seen.view v.0).transcript w now) c.self.view_is
    (λ w stands. crashes g.S.Disk.seen w c.self.inside.state d e (g.met.S.Crashing.tells d).contents tells.contents
    c.crash_here.ensures.image c.crash_here.ensures.settled (empty_told (g.S.Disk.seen.view e).transcript tells.transcript c.crash_here.ensures.transcript) stands)
