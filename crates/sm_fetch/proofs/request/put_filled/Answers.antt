use Rattle.sm_fetch.specs.Patterns.{filled}
use Rattle.std.proofs.Common.{◌++◌}
use Rattle.sm_fetch.proofs.Filling.{filling_on}
use Rattle.sm_fetch.proofs.request.put_filled.Goals as goal

pub loop-i-preserved : goal.loop-i-preserved
loop-i-preserved c =
    filling_on c.args.url.now c.loop-i.out.items c.put_next.new.out.items
    (c.args.out.now.items ++ filled c.args.address.now.bitrate c.args.address.now.time c.args.url.now)
    c.args.address.now.bitrate c.args.address.now.time c.loop-i.skip c.in_ok-skip.skip c.loop-i.i c.in_ok-skip.ensures c.loop-i.invariant
