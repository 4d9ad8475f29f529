use Rattle.std.proofs.Common.{◌≡◌, ◌++◌, drop}
use Rattle.sm_standby.specs.Candidates.{row}
use Rattle.sm_standby.proofs.candidates.row.Given as goal

abbrev pub invariant-loop-candidates : goal.invariant-loop-candidates
invariant-loop-candidates l = l.addresses.items ++ row l.channel l.place (drop l.candidates-index l.all) ≡ row l.channel l.place l.all
