use Rattle.sm_smil.proofs.OneAnswer.{some_ladder}
use Rattle.sm_smil.proofs.OneReading.{one_live_manifest, one_ladder}
use Rattle.sm_smil.proofs.law.text_has_one_reading.Goals as goal

pub returns-clause-pushed : goal.returns-clause-pushed
returns-clause-pushed c = λ text r s h k. one_live_manifest text r s h k

pub returns-clause-ladder : goal.returns-clause-ladder
returns-clause-ladder c = λ text r s h k. one_ladder text r s h k

pub returns-clause-some_ladder : goal.returns-clause-some_ladder
returns-clause-some_ladder c = λ text. some_ladder text
