use Rattle.sm_pull.proofs.Offered.{offered}
use Rattle.sm_pull.proofs.law.manifests_have_the_tracks.Goals as goal

pub returns : goal.returns
returns c = offered
