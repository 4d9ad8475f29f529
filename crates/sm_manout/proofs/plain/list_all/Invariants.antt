use Rattle.std.proofs.Common.{◌≡◌, ◌++◌, take, map}
use Rattle.std.specs.List.{flat_map}
use Rattle.sm_manout.specs.Plain.{address}
use Rattle.sm_manout.specs.Shown.{at_bitrates}
use Rattle.sm_manout.proofs.plain.list_all.Given as goal

abbrev pub invariant-loop-start : goal.invariant-loop-start
invariant-loop-start l = map address l.out.items ≡ map address l.initial.out.items ++ flat_map (at_bitrates l.opened) (take l.start-index l.starts)
