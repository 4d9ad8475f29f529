use Rattle.sm_tag.proofs.TagTotals.{tags_total}
use Rattle.sm_tag.proofs.Unique.{Runs-unique}
use Rattle.sm_tag.proofs.law.text_has_one_list_of_tags.Goals as goal

pub returns-clause-some : goal.returns-clause-some
returns-clause-some c = λ text. tags_total text

pub returns-clause-one : goal.returns-clause-one
returns-clause-one c = λ text a b h k. Runs-unique h k
