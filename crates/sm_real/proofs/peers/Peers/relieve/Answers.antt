use Rattle.sm_real.proofs.Giving.{gives_more, gives_none}
use Rattle.sm_real.proofs.peers.Peers.relieve.Goals as goal

pub relieving-init : goal.relieving-init
relieving-init c = gives_none c.args.self.now.list.items

pub relieving-preserved : goal.relieving-preserved
relieving-preserved c = gives_more _ _ _ c.relieving.invariant c.give_up.ensures.gives_up
