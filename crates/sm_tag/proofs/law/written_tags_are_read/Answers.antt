use Rattle.sm_tag.proofs.WrittenTags.{Starts-again, finish-again}
use Rattle.sm_tag.proofs.law.written_tags_are_read.Goals as goal

pub returns-clause-start : goal.returns-clause-start
returns-clause-start c = λ name attributes empty rest is are. Starts-again name attributes empty rest is are

pub returns-clause-finish : goal.returns-clause-finish
returns-clause-finish c = λ name rest is. finish-again name rest is
