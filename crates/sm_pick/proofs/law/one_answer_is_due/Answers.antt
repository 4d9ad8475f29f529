use Rattle.sm_pick.proofs.OneAnswer.{one_answer}
use Rattle.sm_pick.proofs.law.one_answer_is_due.Goals as goal

pub returns : goal.returns
returns c = one_answer
