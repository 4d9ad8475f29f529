use Rattle.std.proofs.Common.{◌≡◌, ◌≤◌, ◌+◌, ◌++◌, drop}
use Rattle.sm_manout.specs.ManifestText.{runs_from, run_lines}
use Rattle.sm_manout.proofs.times.put_behind.Given as goal

abbrev pub invariant-loop-x : goal.invariant-loop-x
invariant-loop-x l = record {
  few : l.count ≤ l.x-index + 1;
  text : l.out.items ++ run_lines (runs_from l.start l.count l.last (drop l.x-index l.rest)) ≡ l.initial.out.items ++ run_lines (runs_from l.fn.first.0 1 l.fn.first l.rest);
}
