use Rattle.std.proofs.Common.{true, false, if◌then◌else◌, [], refl, subst}
use Rattle.sm_serve.specs.Run.{idle, acting, sending, in_phase, wants}
use Rattle.sm_serve.specs.declared.still.Still.{Still}
use Rattle.sm_serve.specs.Standing.{Reaches, stays_open}
use Rattle.sm_head.specs.declared.reply.TheConstants.{NO_MEMORY}
use Rattle.sm_serve.proofs.Going.{paused}
use Rattle.sm_serve.proofs.Reaching.{reach_then, closed_counts, starving, paused_follows}
use Rattle.sm_serve.proofs.item.starve.Goals as goal

pub returns-clause-goes_on : goal.returns-clause-goes_on
returns-clause-goes_on g c h more counts origin keeps stands phase =
    let d = c.args.site.now in
    let n = c.args.number in
    let k = paused g.S.Disk.seen h (in_phase h.point (sending n NO_MEMORY.now true [])) in
    let told = c.tell.ensures.goes_on k [] origin (starving g.S.Disk.seen h d n more keeps phase) stands refl in
    let shut = c.tell.ensures.closed refl in
    closed_counts g.S.Disk.seen h n idle (h.point.counts n) counts origin c.tell.new.site
    (reach_then g.S.Disk.seen h k n false idle (h.point.counts n) (h.point.counts n) origin c.tell.new.site (paused_follows g.S.Disk.seen h n (sending n NO_MEMORY.now true []) (wants n more phase refl refl refl))
    (subst (λ (s : Still). Reaches g.S.Disk.seen k n (stays_open s) (if stays_open s then acting n [] else idle) (h.point.counts n) origin c.tell.new.site) shut told) (λ t. refl))
