use Rattle.sm_box.proofs.StayLemmas.{head_stays}
use Rattle.sm_box.proofs.law.head_stays.Goals as goal

pub returns : goal.returns
returns c = head_stays
