use Rattle.sm_real.specs.Numbers.{GivesUp}
use Rattle.sm_real.specs.Waiting.{wait_in_all}
use Rattle.sm_real.proofs.peers.Peers.relieve.Given as goal

abbrev pub invariant-relieving : goal.invariant-relieving
invariant-relieving l = GivesUp l.initial.self.list.items l.self.list.items

abbrev pub decreases-relieving : goal.decreases-relieving
decreases-relieving l = wait_in_all l.self.list.items
