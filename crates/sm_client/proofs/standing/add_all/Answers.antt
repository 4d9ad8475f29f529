use Rattle.std.proofs.Common.{get_or}
use Rattle.std.proofs.lemmas.List.{get_or_default}
use Rattle.sm_client.proofs.Knows.{taken_in-start, taken_in-more, taken_in-end}
use Rattle.sm_client.proofs.standing.add_all.Goals as goal

pub loop-time-init : goal.loop-time-init
loop-time-init c = taken_in-start _ _ _

pub loop-time-preserved : goal.loop-time-preserved
loop-time-preserved c =
    let t = get_or c.args.times.now c.loop-time.time-index (0, 0) in
    taken_in-more _ t c.loop-time.invariant c.loop-time-test.true (get_or_default c.args.times.now c.loop-time.time-index t (0, 0) c.loop-time-test.true) c.in-Ok.ensures

pub returns : goal.returns
returns c = taken_in-end c.loop-time.invariant c.loop-time-test.false
