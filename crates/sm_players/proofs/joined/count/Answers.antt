use Rattle.std.proofs.Common.{arith}
use Rattle.sm_players.proofs.Joining.{count_next}
use Rattle.sm_players.proofs.joined.count.Goals as goal

pub loop-end-preserved : goal.loop-end-preserved
loop-end-preserved g c =
    let all = c.loop-end.invariant.all in
    let one = c.add.ensures.all in
    record {
      all = omega (arith, all, one);
      counted =
          count_next g.W.Link.seen.view g.F.Forward.asked c.args.ends.now c.loop-end.end-index c.end-item.result c.played.result
          c.loop-end.finished c.add.new.self c.loop-end-test.true c.end-item.is c.played.ensures c.add.ensures.one c.loop-end.invariant.counted;
    }
