use Rattle.std.proofs.Common.{◌≡◌, drop}
use Rattle.sm_manin.specs.RunTimes.{times_in, fault_in}
use Rattle.sm_manin.proofs.times.note_times.Given as goal

abbrev pub invariant-loop-i : goal.invariant-loop-i
invariant-loop-i l =
    (fault_in (times_in l.is_open l.end l.count (drop l.i l.times)) ≡ fault_in (times_in l.is_open 0 0 l.times)) × (l.fault ≡ l.initial.fault)
