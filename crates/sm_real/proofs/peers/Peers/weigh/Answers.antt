use Rattle.std.proofs.Common.{inr, refl}
use Rattle.sm_real.proofs.peers.Peers.weigh.Goals as goal

pub returns-in-Some : goal.returns-in-Some
returns-in-Some c = inr (record { place = c.in-Some.place; there = c.in-Some.ensures; after = c.weigh.new.self; only = refl })
