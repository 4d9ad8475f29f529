use Rattle.std.proofs.Common.{◌≡◌, ◌≤◌, ◌++◌, drop}
use Rattle.sm_manout.specs.ManifestText.{level_lines}
use Rattle.sm_manout.proofs.stream.put_levels.Given as goal

abbrev pub invariant-loop-t : goal.invariant-loop-t
invariant-loop-t l = record {
  few : l.index ≤ l.t-index;
  text : l.out.items ++ level_lines l.index l.name (drop l.t-index l.channel) ≡ l.initial.out.items ++ level_lines 0 l.name l.channel;
}
