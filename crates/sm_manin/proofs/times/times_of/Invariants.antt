use Rattle.std.proofs.Common.{◌≡◌, false, drop}
use Rattle.sm_manin.specs.RunTimes.{times_in, with_times}
use Rattle.sm_manin.proofs.times.times_of.Given as goal

abbrev pub invariant-loop-i : goal.invariant-loop-i
invariant-loop-i l =
    with_times l.all.items (times_in false l.end l.count (drop l.i l.times)) ≡ times_in false 0 0 l.times
