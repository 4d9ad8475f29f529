use Rattle.std.proofs.Common.{◌≡◌}
use Rattle.sm_crew.proofs.real_crew.RealCrew.wire.Given as goal

abbrev pub invariant-loop : goal.invariant-loop
invariant-loop g l = record {
  started : l.self.crew.started ≡ l.initial.self.crew.started;
  turns : l.self.crew.turns ≡ l.initial.self.crew.turns;
  faults : l.self.crew.faults ≡ l.initial.self.crew.faults;
  wired : l.self.crew.wired ≡ l.initial.self.crew.wired;
}
