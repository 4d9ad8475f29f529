use Rattle.std.proofs.Common.{[], sym, subst, arith}
use Rattle.sm_conn.specs.declared.part.Part.{Part}
use Rattle.sm_conn.specs.Stands.{items_of}
use Rattle.sm_players.specs.Replying.{IsAnswer}
use Rattle.sm_players.proofs.Going.{behind_nil}
use Rattle.sm_players.proofs.Replies.{bad_answer, post_answer}
use Rattle.sm_players.proofs.replying.reply_for.Goals as goal

pub returns-in-Get : goal.returns-in-Get
returns-in-Get g c =
    let t = c.answered.ensures in
    record {
      asked = t.asked;
      asks = t.asks;
      means = subst (λ (p : Part). IsAnswer c.args.reader.now.seen (items_of p) c.answered.new.reader.seen t.asked c.answered.result) (sym c.in-Get.is) t.means;
      later = t.later;
    }

pub returns-in-Post : goal.returns-in-Post
returns-in-Post g c = record {
  asked = [];
  asks = behind_nil (g.F.Forward.asked c.args.forward.now);
  means = subst (λ (p : Part). IsAnswer c.args.reader.now.seen (items_of p) c.args.reader.now.seen [] c.refuse.result) (sym c.in-Post.is)
      (post_answer c.args.reader.now.seen c.refuse.result c.refuse.ensures);
  later = omega arith;
}

pub returns-in-Bad : goal.returns-in-Bad
returns-in-Bad g c = record {
  asked = [];
  asks = behind_nil (g.F.Forward.asked c.args.forward.now);
  means = subst (λ (p : Part). IsAnswer c.args.reader.now.seen (items_of p) c.args.reader.now.seen [] c.refuse_last.result) (sym c.in-Bad.is)
      (bad_answer c.args.reader.now.seen c.in-Bad.cause c.refuse_last.result c.refuse_last.ensures);
  later = omega arith;
}
