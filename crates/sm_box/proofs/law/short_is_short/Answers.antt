use Rattle.sm_box.proofs.StayLemmas.{short_is_short}
use Rattle.sm_box.proofs.law.short_is_short.Goals as goal

pub returns : goal.returns
returns c = short_is_short
