use Rattle.std.proofs.Common.{sym, ◌∙◌}
use Rattle.sm_box.proofs.HeadLemmas.{head_says, front, is_cut, no_whole}
use Rattle.sm_box.proofs.whole.whole_at.Goals as goal

pub returns-then-size-bytes-clause-none : goal.returns-then-size-bytes-clause-none
returns-then-size-bytes-clause-none c = is_cut _ _ _ _ (head_says _ _ _ _ (sym c.in-Whole.is ∙ c.read.ensures)) c.if-size-bytes.true

pub returns-else-size-bytes-clause-some : goal.returns-else-size-bytes-clause-some
returns-else-size-bytes-clause-some c = front _ _ _ _ (head_says _ _ _ _ (sym c.in-Whole.is ∙ c.read.ensures)) c.if-size-bytes.false

pub returns-in-Short-clause-none : goal.returns-in-Short-clause-none
returns-in-Short-clause-none c = no_whole _ _ c.in-Short.ensures tt

pub returns-in-Bad-clause-none : goal.returns-in-Bad-clause-none
returns-in-Bad-clause-none c = no_whole _ _ c.in-Bad.ensures tt

pub returns-in-OpenEnded-clause-none : goal.returns-in-OpenEnded-clause-none
returns-in-OpenEnded-clause-none c = no_whole _ _ c.in-OpenEnded.ensures tt
