use Rattle.sm_tag.proofs.Wrong.{markups_wrong}
use Rattle.sm_tag.proofs.law.what_follows_mends_nothing.Goals as goal

pub returns : goal.returns
returns c = λ bytes more h. markups_wrong bytes more h
