use Rattle.std.proofs.Common.{ℕ, List, true, subst}
use Rattle.std.proofs.lemmas.List.{append-nil}
use Rattle.sm_head.specs.declared.reply.TheConstants.{NO_MEMORY}
use Rattle.sm_players.specs.Telling.{Tells}
use Rattle.sm_players.proofs.telling.starve.Goals as goal

pub returns-clause-goes : goal.returns-clause-goes
returns-clause-goes g c =
    let t = c.tell.ensures.goes in
    (t.0, t.1, subst (λ (b : List ℕ). Tells c.args.number b true t.0 c.tell.result) (append-nil NO_MEMORY.now) t.2)
