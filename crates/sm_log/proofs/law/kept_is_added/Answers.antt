use Rattle.sm_log.proofs.AllLogs.{kept_place, kept_once}
use Rattle.sm_log.proofs.law.kept_is_added.Goals as goal

pub returns : goal.returns
returns c = record { place = λ log a. kept_place a 0 log; one = kept_once }
