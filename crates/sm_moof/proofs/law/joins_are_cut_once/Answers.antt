use Rattle.sm_moof.proofs.JoinLemmas.{same_join}
use Rattle.sm_moof.proofs.law.joins_are_cut_once.Goals as goal

pub returns : goal.returns
returns c = same_join c.canonical_texts_are_no_prefixes.ensures
