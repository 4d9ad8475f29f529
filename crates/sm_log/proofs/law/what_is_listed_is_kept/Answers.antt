use Rattle.sm_log.proofs.ListedKept.{listed_kept}
use Rattle.sm_log.proofs.law.what_is_listed_is_kept.Goals as goal

pub returns : goal.returns
returns c = listed_kept
