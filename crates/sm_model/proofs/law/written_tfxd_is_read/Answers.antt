use Rattle.sm_model.proofs.WrittenFields.{time_body}
use Rattle.sm_model.proofs.WrittenUserBoxes.{tfxd_is, tfxd_read}
use Rattle.sm_model.proofs.law.written_tfxd_is_read.Goals as goal

pub returns : goal.returns
returns c = λ time duration w. (time_body time duration, tfxd_is time duration, tfxd_read time duration w)
