use Rattle.sm_model.proofs.WrittenTraf.{traf_whole, traf_again_read}
use Rattle.sm_model.proofs.law.written_traf_is_read.Goals as goal

pub returns : goal.returns
returns c = record { whole = traf_whole; run = traf_again_read }
