use Rattle.sm_smil.proofs.ValidAnswers.{live_manifest_valid}
use Rattle.sm_smil.proofs.law.live_manifests_are_valid.Goals as goal

pub returns : goal.returns
returns c = live_manifest_valid
