use Rattle.std.proofs.Common.{◌≡◌, inl, [], refl, subst}
use Rattle.std.specs.Prelude.{Ok, Err}
use Rattle.sm_players.specs.declared.forward.ForwardError.{ForwardError}
use Rattle.sm_players.specs.declared.forward.ForwardError.TheVariants.{Failed}
use Rattle.sm_players.specs.Asking.{asked_with, told_of}
use Rattle.sm_players.proofs.Replies.{loop_refused, loop_replied}
use Rattle.sm_players.proofs.replying.forwarded.Goals as goal

pub returns-in-Ok : goal.returns-in-Ok
returns-in-Ok g c = record {
  asked = told_of c.args.target.now (Ok c.in-Ok.bytes);
  asks = c.in-Ok.ensures.asked;
  means = loop_replied c.args.target.now c.in-Ok.bytes c.brought.result c.brought.ensures.text c.brought.ensures.close;
  later = c.in-Ok.ensures.later;
}

pub returns-in-Err-Failed : goal.returns-in-Err-Failed
returns-in-Err-Failed g c = record {
  asked = told_of c.args.target.now (Err Failed);
  asks = subst (λ (e : ForwardError). g.F.Forward.asked c.ask.new.self ≡ asked_with (g.F.Forward.asked c.args.forward.now) c.args.target.now (Err e))
      c.in-Err-Failed.field-0-is c.in-Err-Failed.ensures.asked;
  means = loop_refused c.args.target.now c.refuse.result c.refuse.ensures;
  later = c.in-Err-Failed.ensures.later;
}

pub returns-in-Err-NoMemory : goal.returns-in-Err-NoMemory
returns-in-Err-NoMemory g c = record {
  asked = [];
  asks = subst (λ (e : ForwardError). g.F.Forward.asked c.ask.new.self ≡ asked_with (g.F.Forward.asked c.args.forward.now) c.args.target.now (Err e))
      c.in-Err-NoMemory.field-0-is c.in-Err-NoMemory.ensures.asked;
  means = inl refl;
  later = c.in-Err-NoMemory.ensures.later;
}
