use Rattle.std.proofs.Common.{None, refl}
use Rattle.sm_standby.specs.declared.report.FollowEnd.TheVariants as ends
use Rattle.sm_standby.proofs.Rounding.{rounds_stand, called_whole}
use Rattle.sm_standby.proofs.round.follow_channel.Goals as goal

pub returns-in-Err : goal.returns-in-Err
returns-in-Err g c = c.in-Err.ensures.err

pub returns-in-None : goal.returns-in-None
returns-in-None g c = λ log s. let r = c.in-Ok.ensures.ok log s in called_whole ends.Done r (r.count_is, c.in-None.ensures.none, refl) (λ is. cc)

pub returns : goal.returns
returns g c = λ log s.
    let r = c.in-Ok.ensures.ok log s in
    let t = rounds_stand r in
    called_whole (ends.Gap c.len.result c.in-Some.next) r (r.count_is, c.len.ensures t.bodies t.body r.log None t.keeps, c.in-Some.ensures.some, refl) (λ is. cc)
