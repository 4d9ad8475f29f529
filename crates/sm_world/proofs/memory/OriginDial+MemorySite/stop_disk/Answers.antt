use Rattle.std.proofs.Common.{subst}
use Rattle.sm_site.specs.Memory.{site_seen, site_view}
use Rattle.sm_world.specs.Worlds.{World, Stands}
use Rattle.sm_world.proofs.Calls.{same_view}
use Rattle.sm_world.proofs.Standing.{stays}
use Rattle.sm_world.proofs.memory.OriginDial+MemorySite.stop_disk.Goals as goal

pub invariant_of-self : goal.invariant_of-self
invariant_of-self c =
    let i = c.self.invariant in
    let d = c.self.inside.site in
    let e = c.stop_after.new.self in (
      i.0,
      i.1,
      (
        i.2.0,
        stays site_seen c.fewer_images_stand.ensures i.2.0 d e
            (same_view (site_view d) (site_view e) c.stop_after.ensures.view) c.stop_after.ensures.keeps.crash c.stop_after.ensures.keeps.past c.self.inside.state i.2.1,
      ),
      i.3,
    )

pub returns-clause-stands : goal.returns-clause-stands
returns-clause-stands c =
    let d = c.self.inside.site in
    let e = c.stop_after.new.self in
    subst (λ (v : _). (w : World) → Stands site_seen w v.1.state v.0
    → Stands site_seen w c.self.inside.state e) c.self.view_is
    (λ w stands. stays site_seen c.fewer_images_stand.ensures w d e
    (same_view (site_view d) (site_view e) c.stop_after.ensures.view) c.stop_after.ensures.keeps.crash c.stop_after.ensures.keeps.past c.self.inside.state stands)
