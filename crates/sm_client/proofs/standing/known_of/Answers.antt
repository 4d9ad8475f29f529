use Rattle.std.proofs.Common.{◌<◌, ◌-◌, length, get_or, arith}
use Rattle.std.proofs.lemmas.List.{get_or_default}
use Rattle.sm_client.proofs.Knows.{taken-start, taken-more, taken-end}
use Rattle.sm_client.proofs.standing.known_of.Goals as goal

pub loop-left-init : goal.loop-left-init
loop-left-init c = taken-start _ _ _ c.new-known.ensures

pub loop-left-preserved : goal.loop-left-preserved
loop-left-preserved c =
    let i = c.loop-left.left - 1 in
    let fits : i < length c.args.times.now = omega (arith, c.loop-left-test.true, c.loop-left.invariant.within) in
    let t = get_or c.args.times.now i (0, 0) in
    taken-more i _ t c.loop-left.invariant (omega (arith, c.loop-left-test.true)) (get_or_default c.args.times.now i t (0, 0) fits) c.in-Ok.ensures

pub returns : goal.returns
returns c = taken-end c.loop-left.invariant (omega (arith, c.loop-left-test.false))
