use Rattle.sm_serve.proofs.Saying.{runs_tell}
use Rattle.sm_serve.proofs.law.what_went_out_was_told.Goals as goal

pub returns : goal.returns
returns c told first begin faults items steps point run n few = runs_tell told first begin faults items steps point run n few
