use Rattle.sm_moov.proofs.TimescaleLemmas.{moov_ticks}
use Rattle.sm_moov.proofs.law.timescales_are_positive.Goals as goal

pub returns : goal.returns
returns c = moov_ticks
