use Rattle.sm_manout.proofs.Whole.{whole_lists}
use Rattle.sm_manout.proofs.law.whole_manifests_list_all.Goals as goal

pub returns : goal.returns
returns c = whole_lists
