use Rattle.sm_client.proofs.Turns.{settles-start, settles-more, settles-end}
use Rattle.sm_client.proofs.policies.Policies.settle.Goals as goal

pub loop-self-init : goal.loop-self-init
loop-self-init g c = settles-start _ _ _

pub loop-self-preserved : goal.loop-self-preserved
loop-self-preserved g c =
    let yes = c.is_over.ensures.yes c.loop-self-test.true in
    settles-more c.loop-self.invariant yes.0 yes.1 c.take_over.ensures.who c.take_over.ensures.rest

pub returns : goal.returns
returns g c = settles-end c.loop-self.invariant (c.is_over.ensures.no c.loop-self-test.false)
