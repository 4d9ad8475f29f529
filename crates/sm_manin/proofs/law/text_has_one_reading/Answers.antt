use Rattle.sm_manin.proofs.OneReading.{some_reading, one_reading}
use Rattle.sm_manin.proofs.law.text_has_one_reading.Goals as goal

pub returns-clause-some : goal.returns-clause-some
returns-clause-some c = λ text. some_reading text

pub returns-clause-one : goal.returns-clause-one
returns-clause-one c = λ text r s h k. one_reading text r s h k
