use Rattle.sm_manout.proofs.FewestRuns.{runs_as_few}
use Rattle.sm_manout.proofs.law.runs_are_the_fewest.Goals as goal

pub returns : goal.returns
returns c = runs_as_few
