use Rattle.std.proofs.Common.{◌≡◌, drop}
use Rattle.std.specs.Process.{exit_status}
use Rattle.smooth.specs.Troubles.{first_trouble}
use Rattle.smooth.proofs.trouble_of.Given as goal

abbrev pub invariant-loop-number : goal.invariant-loop-number
invariant-loop-number l = first_trouble (exit_status l.status) (drop l.number-index l.troubles) ≡ first_trouble (exit_status l.status) l.troubles
