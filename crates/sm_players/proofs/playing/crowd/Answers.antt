use Rattle.std.proofs.Common.{inl, inr, List, ℕ, true, refl, ap, subst}
use Rattle.sm_head.specs.declared.reply.TheConstants.{NO_MEMORY}
use Rattle.sm_players.specs.declared.replying.Final.{Final}
use Rattle.sm_players.specs.Telling.{Tells}
use Rattle.sm_players.proofs.playing.crowd.Goals as goal

pub returns-in-Ok-clause-goes : goal.returns-in-Ok-clause-goes
returns-in-Ok-clause-goes g c =
    let t = c.tell.ensures.goes in
    (t.0, t.1, (c.in-Ok.reply.text, c.tell.result, inl (ap (λ (f : Final). f.text) c.in-Ok.ensures), subst (λ (b : List ℕ). Tells c.args.number b true t.0 c.tell.result) c.parts.ensures t.2))

pub returns-in-Err-clause-goes : goal.returns-in-Err-clause-goes
returns-in-Err-clause-goes g c =
    let t = c.starve.ensures.goes in
    (t.0, t.1, (NO_MEMORY.now, c.starve.result, inr refl, t.2))
