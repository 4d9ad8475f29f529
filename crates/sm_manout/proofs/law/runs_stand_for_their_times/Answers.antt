use Rattle.sm_manout.proofs.ReadRuns.{all_runs_again}
use Rattle.sm_manout.proofs.law.runs_stand_for_their_times.Goals as goal

pub returns : goal.returns
returns c = all_runs_again
