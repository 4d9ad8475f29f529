use Rattle.std.proofs.Common.{sym, ◌∙◌, below_more}
use Rattle.sm_players.proofs.Lists.{number_at}
use Rattle.sm_players.proofs.live.find.Goals as goal

pub loop-i-preserved : goal.loop-i-preserved
loop-i-preserved c = below_more _ _ c.loop-i.invariant
    (λ e. c.if-live-number.false (sym (number_at c.args.lives.now c.loop-i.i c.index-lives-i.result c.loop-i-test.true c.index-lives-i.is) ∙ e))

pub returns-then-live-number-clause-found : goal.returns-then-live-number-clause-found
returns-then-live-number-clause-found c =
    (c.loop-i-test.true, number_at c.args.lives.now c.loop-i.i c.index-lives-i.result c.loop-i-test.true c.index-lives-i.is ∙ c.if-live-number.true)
