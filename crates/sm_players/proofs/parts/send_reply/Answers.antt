use Rattle.std.proofs.Common.{List, ℕ, subst}
use Rattle.std.specs.Prelude.{Result}
use Rattle.sm_model.specs.declared.no_memory.NoMemory.{NoMemory}
use Rattle.sm_players.specs.declared.replying.Final.{Final}
use Rattle.sm_players.specs.Telling.{Tells}
use Rattle.sm_players.specs.Replying.{IsAnswer}
use Rattle.sm_players.proofs.Handling.{reply_handles, starved_handles}
use Rattle.sm_players.proofs.parts.send_reply.Goals as goal

pub returns-in-Ok-clause-handles : goal.returns-in-Ok-clause-handles
returns-in-Ok-clause-handles g c =
    let t = c.tell-outcome.ensures.goes in
    let f = c.in-Ok.reply in (
      t.0,
      t.1,
      λ seen seen' items asked ans. reply_handles c.args.number seen seen' c.args.counts.now.answered c.note.new.self.answered items t.0 asked c.is_open.result f c.tell-outcome.result
          (subst (λ (r : Result Final NoMemory). IsAnswer seen items seen' asked r) c.in-Ok.is ans)
          (subst (λ (b : List ℕ). Tells c.args.number b f.close t.0 c.tell-outcome.result) c.parts.ensures t.2) c.is_open.ensures c.note.ensures,
    )

pub returns-in-Err-clause-handles : goal.returns-in-Err-clause-handles
returns-in-Err-clause-handles g c =
    let t = c.starve.ensures.goes in (
      t.0,
      t.1,
      λ seen seen' items asked ans. starved_handles c.args.number seen seen' c.args.counts.now.answered items t.0 asked c.starve.result
          (subst (λ (r : Result Final NoMemory). IsAnswer seen items seen' asked r) c.in-Err.is ans) t.2,
    )
