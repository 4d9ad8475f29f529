use Rattle.std.proofs.Common.{sym, ◌∙◌}
use Rattle.sm_pick.proofs.Looking.{unrefused, ends_so}
use Rattle.sm_pick.proofs.search.Search.refusal_at_end.Goals as goal

pub returns-clause-refusal : goal.returns-clause-refusal
returns-clause-refusal c b h = c.end.ensures ∙ ends_so c.args.self.now b (unrefused c.args.self.now b (sym c.is_some.ensures ∙ c.if-is_some.false) h)
