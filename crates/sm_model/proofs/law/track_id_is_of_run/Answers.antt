use Rattle.sm_model.proofs.TrackIdLemmas.{track_id_of_run}
use Rattle.sm_model.proofs.law.track_id_is_of_run.Goals as goal

pub returns : goal.returns
returns c = λ d m run e. track_id_of_run d m run e
