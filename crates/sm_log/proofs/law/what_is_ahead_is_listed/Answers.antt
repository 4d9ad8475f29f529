use Rattle.sm_log.proofs.ListedKept.{ahead_listed, ahead_short, ahead_wide}
use Rattle.sm_log.proofs.law.what_is_ahead_is_listed.Goals as goal

pub returns : goal.returns
returns c = record { listed = ahead_listed; few = ahead_short; wide = ahead_wide }
