use Rattle.std.proofs.Common.{◌+◌, ◌∙◌, ap, arith}
use Rattle.sm_manin.proofs.Steps.{run_fits, run_more, next_start}
use Rattle.sm_manin.proofs.times.put_run.Goals as goal

pub overflow_add-next : goal.overflow_add-next
overflow_add-next c =
    let fits = run_fits c.args.start c.args.duration c.loop-time._time c.args.r c.loop-time-test.true c.requires in
    omega (arith, fits, c.loop-time.invariant.0)

pub loop-time-preserved : goal.loop-time-preserved
loop-time-preserved c = (
  ap (λ n. n + c.args.duration) c.loop-time.invariant.0 ∙ next_start c.args.start c.args.duration c.loop-time._time,
  rw c.in_ok-push.ensures.items (run_more c.loop-time.times.items c.loop-time.next c.args.duration c.loop-time._time c.args.r c.loop-time-test.true ∙ c.loop-time.invariant.1),
)
