use Rattle.std.proofs.Common.{inl, [], refl, arith}
use Rattle.sm_shelf.specs.declared.shown.Shown.TheVariants as shown
use Rattle.sm_players.proofs.Going.{behind_nil}
use Rattle.sm_players.proofs.Replies.{ask_of, answered, sees_on, by_loop, by_shelf}
use Rattle.sm_players.proofs.replying.published.Goals as goal

pub answer-requires : goal.answer-requires
answer-requires g c = record { asks = ask_of c.args.target.now c.args.act.now c.requires }

pub returns-in-Reply : goal.returns-in-Reply
returns-in-Reply g c = record {
  asked = [];
  asks = behind_nil (g.F.Forward.asked c.args.forward.now);
  means = by_shelf c.args.reader.now.seen c.args.target.now c.answer.new.self.seen c.args.act.now c.in-Reply.text c.requires
      (answered c.args.reader.now c.answer.new.self c.args.act.now (shown.Reply c.in-Reply.text) c.in-Reply.ensures.found c.in-Reply.ensures.lost (λ e. absurd (cc)));
  later = omega arith;
}

pub returns-in-Forward : goal.returns-in-Forward
returns-in-Forward g c =
    let t = c.forwarded.ensures in
    record {
      asked = t.asked;
      asks = t.asks;
      means = by_loop c.args.reader.now.seen c.args.target.now c.answer.new.self.seen c.args.act.now t.asked c.forwarded.result c.requires
          (answered c.args.reader.now c.answer.new.self c.args.act.now shown.Forward c.in-Forward.ensures.found c.in-Forward.ensures.lost (λ e. absurd (cc))) t.means;
      later = t.later;
    }

pub returns-in-NoMemory : goal.returns-in-NoMemory
returns-in-NoMemory g c = record {
  asked = [];
  asks = behind_nil (g.F.Forward.asked c.args.forward.now);
  means = λ close. record {
    on = sees_on c.args.reader.now c.answer.new.self c.args.act.now shown.NoMemory c.in-NoMemory.ensures.found c.in-NoMemory.ensures.lost;
    asks = inl refl;
  };
  later = omega arith;
}
