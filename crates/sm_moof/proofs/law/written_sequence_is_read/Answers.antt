use Rattle.sm_moof.proofs.SequenceLemmas.{written_again}
use Rattle.sm_moof.proofs.law.written_sequence_is_read.Goals as goal

pub returns : goal.returns
returns c = written_again
