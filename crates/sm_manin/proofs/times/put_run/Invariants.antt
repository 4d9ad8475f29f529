use Rattle.std.proofs.Common.{◌≡◌, ◌+◌, ◌*◌, ◌-◌, ◌++◌}
use Rattle.sm_manin.specs.RunTimes.{expand}
use Rattle.sm_manin.proofs.times.put_run.Given as goal

abbrev pub invariant-loop-time : goal.invariant-loop-time
invariant-loop-time l =
    (l.next ≡ l.start + l.duration * l._time) × (l.times.items ++ expand l.next l.duration (l.r - l._time) ≡ l.initial.times.items ++ expand l.start l.duration l.r)
