use Rattle.std.proofs.Common.{sym}
use Rattle.sm_fetch.specs.Spelt.{IsFragmentAt}
use Rattle.sm_fetch.proofs.Pairs.{pair_of}
use Rattle.sm_fetch.proofs.placed.read_numbered.Goals as goal

pub returns-in-Ok-None : goal.returns-in-Ok-None
returns-in-Ok-None c raw f = absurd ((rw c.in-Ok-None.field-0-is at c.in-Ok-None.ensures) raw f)

pub returns-in-Some : goal.returns-in-Some
returns-in-Some c =
    let f : IsFragmentAt c.args.time c.args.body.now c.in-Ok-Some.raw = (rw c.in-Ok-Some.field-0-is at c.in-Ok-Some.ensures) in
    (f, sym (c.in-Some.ensures f.moof f.mdat (pair_of c.args.time c.args.body.now c.in-Ok-Some.raw f)))

pub returns-in-None : goal.returns-in-None
returns-in-None c raw f = sym (c.in-None.ensures f.moof f.mdat (pair_of c.args.time c.args.body.now raw f))
