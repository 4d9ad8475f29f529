use Rattle.std.proofs.Common.{inr, refl, ◌∙◌}
use Rattle.std.proofs.lemmas.List.{get_or_default}
use Rattle.sm_real.proofs.Giving.{sent_to}
use Rattle.sm_real.proofs.peers.Peers.send.Goals as goal

pub returns-in-Some-clause-sent : goal.returns-in-Some-clause-sent
returns-in-Some-clause-sent c =
    sent_to c.send.result c.args.number c.in-Some.place _ c.args.self.now.list.items c.index_mut.result.now c.send.new.self c.in-Some.ensures
    (λ p. c.index_mut.ensures.value ∙ get_or_default c.args.self.now.list.items c.in-Some.place c.index_mut.result.now p c.in-Some.ensures.inside) c.send.ensures.goes_out

pub returns-in-Some-clause-no_other : goal.returns-in-Some-clause-no_other
returns-in-Some-clause-no_other c = inr (record { place = c.in-Some.place; there = c.in-Some.ensures; after = c.send.new.self; only = refl })
