use Rattle.sm_fetch.proofs.CutFronts.{front_is_cut}
use Rattle.sm_fetch.proofs.law.fronts_are_cut.Goals as goal

pub returns : goal.returns
returns c = front_is_cut
