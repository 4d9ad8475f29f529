use Rattle.std.proofs.Common.{◌≡◌, drop, max}
use Rattle.sm_standby.specs.Candidates.{longest}
use Rattle.sm_standby.proofs.candidates.longest.Given as goal

abbrev pub invariant-loop-candidates : goal.invariant-loop-candidates
invariant-loop-candidates l = max l.most (longest (drop l.candidates-index l.all)) ≡ longest l.all
