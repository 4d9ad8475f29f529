use Rattle.std.proofs.Common.{◌<◌, ◌^◌, false, sym, ◌∙◌, arith}
use Rattle.sm_manin.proofs.Steps.{times_more, count_fits}
use Rattle.sm_manin.proofs.times.times_of.Goals as goal

pub overflow_add-count : goal.overflow_add-count
overflow_add-count c =
    let low : c.loop-i.count < 2 ^ 64 = omega (arith, c.loop-i.auto.count-fits) in
    let fits = count_fits false c.loop-i.end c.loop-i.count c.index-times-i.result _ _ low (sym c.time_in.ensures ∙ c.in-Some.is) in
    omega (arith, fits)

pub loop-i-preserved : goal.loop-i-preserved
loop-i-preserved c =
    rw c.in_ok-put_run.ensures (times_more false c.loop-i.end c.loop-i.count c.loop-i.i c.args.times.now c.index-times-i.result _ _ _ c.loop-i.all.items (omega arith) c.index-times-i.is (sym c.time_in.ensures ∙ c.in-Some.is)
    ∙ c.loop-i.invariant)
