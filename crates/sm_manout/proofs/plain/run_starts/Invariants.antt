use Rattle.std.proofs.Common.{◌≡◌, ◌+◌, ◌-◌, ◌*◌, ◌++◌}
use Rattle.sm_manout.specs.Shown.{run_starts}
use Rattle.sm_manout.proofs.plain.run_starts.Given as goal

abbrev pub invariant-loop-i : goal.invariant-loop-i
invariant-loop-i l = l.starts.items ++ run_starts (l.count - l.i) (l.start + l.i * l.duration) l.duration ≡ run_starts l.count l.start l.duration
