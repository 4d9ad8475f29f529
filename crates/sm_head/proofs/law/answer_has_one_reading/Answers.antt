use Rattle.sm_head.proofs.ReplyLaw.{one_reading}
use Rattle.sm_head.proofs.law.answer_has_one_reading.Goals as goal

pub returns : goal.returns
returns c = one_reading
