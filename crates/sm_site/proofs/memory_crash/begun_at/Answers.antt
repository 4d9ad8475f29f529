use Rattle.std.proofs.Common.{sym, ◌∙◌}
use Rattle.sm_site.proofs.Ordered.{front_begun}
use Rattle.sm_site.proofs.memory_crash.begun_at.Goals as goal

pub returns-else-not-begins-clause-before : goal.returns-else-not-begins-clause-before
returns-else-not-begins-clause-before c =
    front_begun c.args.past.now c.loop-at.at c.index-past-at.result c.loop-at-test.true c.loop-at.invariant c.index-past-at.is c.args.conn c.requires
    (sym c.begins.ensures ∙ c.if-not-begins.false)
