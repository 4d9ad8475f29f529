use Rattle.std.proofs.Common.{[], ◌∷◌, sym, ◌∙◌, arith}
use Rattle.sm_conn.specs.Parts.{got}
use Rattle.sm_players.proofs.Going.{behind_nil}
use Rattle.sm_players.proofs.Replies.{starved_here, no_target}
use Rattle.sm_players.proofs.replying.reply_to.Goals as goal

pub returns-in-Ok-None : goal.returns-in-Ok-None
returns-in-Ok-None g c = record {
  asked = [];
  asks = behind_nil (g.F.Forward.asked c.args.forward.now);
  means = no_target c.args.reader.now.seen c.args.target.now c.refuse.result (sym c.in-Ok-None.ensures ∙ c.in-Ok-None.field-0-is) c.refuse.ensures;
  later = omega arith;
}

pub returns-in-Err : goal.returns-in-Err
returns-in-Err g c = record {
  asked = [];
  asks = behind_nil (g.F.Forward.asked c.args.forward.now);
  means = λ close. starved_here c.args.reader.now.seen (got c.args.target.now close ∷ []);
  later = omega arith;
}

pub published-requires : goal.published-requires
published-requires g c = sym c.in-Ok-Some.ensures ∙ c.in-Ok-Some.field-0-is
