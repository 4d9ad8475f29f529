use Rattle.std.proofs.Common.{◌+◌, refl, ap, ◌∙◌, arith}
use Rattle.sm_model.specs.Cut.{sizes}
use Rattle.sm_model.proofs.CutLemmas.{cut_step, cut_done, cut_count, cut_left, cut_joined}
use Rattle.sm_model.proofs.sample.Samples.cut.Goals as goal

pub loop-row-init : goal.loop-row-init
loop-row-init c = rw (c.in_ok-rest.ensures, c.in_ok-items.ensures.items) (refl, (c.requires, refl))

pub loop-row-preserved : goal.loop-row-preserved
loop-row-preserved c = (
  cut_count _ _ _ _ _ (record { duration = 0; size = 0; flags = 0; offset = 0 }) c.loop-row-test.true c.in_ok-split_front.ensures.rest c.loop-row.invariant.0 c.loop-row.invariant.1.0,
  cut_step _ _ _ _ _ _ (record { duration = 0; size = 0; flags = 0; offset = 0 }) _ _ _ c.loop-row-test.true c.in_ok-push.ensures.items
      c.from_part-bytes.ensures c.in_ok-split_front.ensures.front c.in_ok-split_front.ensures.rest c.loop-row.invariant.1,
)

pub overflow_sub-len : goal.overflow_sub-len
overflow_sub-len c = omega (arith, c.len.ensures, c.len-2.ensures, cut_left _ _ _ _ c.loop-row-test.false c.loop-row.invariant.0)

pub invariant_of-result : goal.invariant_of-result
invariant_of-result c =
    cut_joined c.args.block.now c.args.rows.now _ _ c.len.result c.len-2.result c.requires (cut_done _ _ _ _ _ c.loop-row-test.false c.loop-row.invariant.1.1) c.in_ok-whole.ensures c.len.ensures
    (ap (λ n. n + sizes c.args.rows.now) c.len-2.ensures ∙ cut_left _ _ _ _ c.loop-row-test.false c.loop-row.invariant.0)

pub returns : goal.returns
returns c = cut_done _ _ _ _ _ c.loop-row-test.false c.loop-row.invariant.1.1
