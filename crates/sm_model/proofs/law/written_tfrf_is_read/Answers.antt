use Rattle.sm_model.proofs.WrittenFields.{ahead_body}
use Rattle.sm_model.proofs.WrittenUserBoxes.{tfrf_is, tfrf_read}
use Rattle.sm_model.proofs.law.written_tfrf_is_read.Goals as goal

pub returns : goal.returns
returns c = λ ahead few w. (ahead_body ahead, tfrf_is ahead few, tfrf_read ahead w)
