use Rattle.sm_log.proofs.AllLogs.{kept_there, kept_stays}
use Rattle.sm_log.proofs.law.what_is_kept_stays.Goals as goal

pub returns-clause-there : goal.returns-clause-there
returns-clause-there c log address kept is = kept_there address 0 log kept is

pub returns-clause-stays : goal.returns-clause-stays
returns-clause-stays c log more address kept is = kept_stays address 0 log more kept is
