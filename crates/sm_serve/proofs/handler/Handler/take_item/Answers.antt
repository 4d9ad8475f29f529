use Rattle.sm_serve.specs.Resting.{counts_of}
use Rattle.sm_serve.specs.Items.{shown_item}
use Rattle.sm_serve.proofs.handler.Handler.take_item.Goals as goal

pub returns-clause-goes_on : goal.returns-clause-goes_on
returns-clause-goes_on g c =
    c.act_on.ensures.goes_on (shown_item c.args.item) (c.act_for_item-act.ensures.act (counts_of c.args.self.now.live.now)) c.act_for_item-act.ensures.open c.act_for_item-act.ensures.counts
