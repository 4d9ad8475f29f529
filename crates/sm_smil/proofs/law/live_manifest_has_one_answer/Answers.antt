use Rattle.sm_smil.proofs.OneAnswer.{some_answer, one_answer}
use Rattle.sm_smil.proofs.law.live_manifest_has_one_answer.Goals as goal

pub returns : goal.returns
returns c = record { some = some_answer; one = one_answer }
