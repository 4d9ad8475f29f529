use Rattle.sm_manout.proofs.ShownManifest.{listed_is_listed}
use Rattle.sm_manout.proofs.law.manifests_list_what_is_listed.Goals as goal

pub returns : goal.returns
returns c = listed_is_listed
