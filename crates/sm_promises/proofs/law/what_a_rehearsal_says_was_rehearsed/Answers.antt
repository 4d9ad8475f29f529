use Rattle.sm_promises.proofs.Rehearsing.{rehearses}
use Rattle.sm_promises.proofs.law.what_a_rehearsal_says_was_rehearsed.Goals as goal

pub returns : goal.returns
returns g c m before after ran number size is zero = rehearses _ _ m before after ran number size is zero
