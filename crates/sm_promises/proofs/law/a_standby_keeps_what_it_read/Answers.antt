use Rattle.sm_promises.proofs.Following.{follows}
use Rattle.sm_promises.proofs.law.a_standby_keeps_what_it_read.Goals as goal

pub returns : goal.returns
returns g c m before after ran e is earlier made was told = follows _ _ m before after ran e is earlier made was told
