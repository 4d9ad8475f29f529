use Rattle.sm_addr.proofs.CutLaw.{one_more, found_at, tail_starts, tail_long}
use Rattle.std.proofs.Common.{refl}
use Rattle.sm_addr.proofs.path.isml_at.Goals as goal

pub loop-at-preserved : goal.loop-at-preserved
loop-at-preserved c = one_more c.args.text.now c.loop-at.at c.loop-at-test.true (tail_starts c.args.text.now c.loop-at.at _ c.if-starts_with.ensures.value) c.loop-at.invariant

pub returns-then-starts_with : goal.returns-then-starts_with
returns-then-starts_with c = (
  tail_long c.args.text.now c.loop-at.at c.loop-at-test.true (c.if-starts_with.ensures.bound refl),
  found_at c.args.text.now c.loop-at.at c.loop-at-test.true (tail_starts c.args.text.now c.loop-at.at _ c.if-starts_with.ensures.value) c.loop-at.invariant,
)
