use Rattle.std.proofs.Common.{◌∙◌}
use Rattle.std.proofs.lemmas.List.{get_or_default}
use Rattle.sm_real.proofs.Visiting.{touches_one}
use Rattle.sm_real.proofs.peers.Peers.visit.Goals as goal

pub returns-clause-no_other : goal.returns-clause-no_other
returns-clause-no_other c =
    touches_one c.args.place c.args.self.now.list.items c.index_mut-peer.result.now c.visit-found.new.self c.requires.there
    (λ p. c.index_mut-peer.ensures.value ∙ get_or_default c.args.self.now.list.items c.args.place c.index_mut-peer.result.now p c.requires.there) c.visit-found.ensures.number
