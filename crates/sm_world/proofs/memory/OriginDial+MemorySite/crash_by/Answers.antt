use Rattle.std.proofs.Common.{refl, subst}
use Rattle.sm_site.specs.Memory.{site_seen, site_view}
use Rattle.sm_world.specs.Worlds.{World, Stands, IsClosed, Crashes}
use Rattle.sm_world.proofs.Calls.{empty_told}
use Rattle.sm_world.proofs.Standing.{crashes}
use Rattle.sm_world.proofs.memory.OriginDial+MemorySite.crash_by.Goals as goal

pub invariant_of-self : goal.invariant_of-self
invariant_of-self c =
    let i = c.self.invariant in
    let d = c.self.inside.site in
    let e = c.crash_here.new.self in
    let x = crashes site_seen i.2.0 c.self.inside.state d e refl refl
    c.crash_here.ensures.image c.crash_here.ensures.settled (empty_told (site_view e).transcript refl c.crash_here.ensures.transcript) i.2.1 in
    (i.0, i.1, (x.0, x.1), i.3)

pub returns-clause-crashes : goal.returns-clause-crashes
returns-clause-crashes c =
    let d = c.self.inside.site in
    let e = c.crash_here.new.self in
    subst (λ (v : _). (w : World) → Stands site_seen w v.1.state v.0
    → (now : World) × IsClosed site_seen now e × Crashes (site_view v.0).transcript w now) c.self.view_is
    (λ w stands. crashes site_seen w c.self.inside.state d e refl refl
    c.crash_here.ensures.image c.crash_here.ensures.settled (empty_told (site_view e).transcript refl c.crash_here.ensures.transcript) stands)
