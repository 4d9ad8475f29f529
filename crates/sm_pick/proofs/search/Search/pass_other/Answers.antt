use Rattle.sm_pick.proofs.Looking.{passes_from}
use Rattle.sm_pick.proofs.search.Search.pass_other.Goals as goal

pub returns-then-pass-clause-looks : goal.returns-then-pass-clause-looks
returns-then-pass-clause-looks c b h = passes_from c.args.self.now b c.pass.new.self h (c.pass.ensures.passed c.if-pass.true)
