use Rattle.std.proofs.Common.{rules}
use Rattle.sm_ends.proofs.Known.{Appends-front}
use Rattle.sm_ends.proofs.output.write_all.Goals as goal

pub loop-done-preserved : goal.loop-done-preserved
loop-done-preserved g c =
    (search rules, Appends-front _ _ _ _ _ _ c.loop-done.invariant.1 c.in_ok-done.ensures.bytes, search rules)
