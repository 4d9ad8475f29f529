use Rattle.std.proofs.Common.{ℕ, List, Bool, IfSome, refl, sym, ap, subst}
use Rattle.std.specs.Prelude.{not}
use Rattle.sm_site.specs.Meanings.{Deal}
use Rattle.sm_site.specs.Meanings.Deal.{Came}
use Rattle.sm_site.specs.Event.{deal_of}
use Rattle.sm_site.specs.declared.event.Event.{Event}
use Rattle.sm_players.specs.Open.{AreOpen, AreOpenBut, MayHandle}
use Rattle.sm_players.specs.Taking.{standing}
use Rattle.sm_players.specs.Playing.{is_over}
use Rattle.sm_players.specs.Given.{TurnGives}
use Rattle.sm_players.proofs.Handling.{if_then, left_gives, over_gives}
use Rattle.sm_players.proofs.playing.handle.Goals as goal

abbrev goes_on : Event → Bool
goes_on event = not (is_over (deal_of event))

pub begin-requires : goal.begin-requires
begin-requires g c = record { may = subst (λ (e : Event). IfSome (g.W.Link.seen.view c.args.wire.now).transcript (MayHandle e c.args.lives.now.items)) c.in-Opened.is c.requires.may }

pub take-requires : goal.take-requires
take-requires g c = record { live = subst (λ (e : Event). IfSome (g.W.Link.seen.view c.args.wire.now).transcript (MayHandle e c.args.lives.now.items)) c.in-Piece.is c.requires.may }

pub returns-in-Opened-clause-turns : goal.returns-in-Opened-clause-turns
returns-in-Opened-clause-turns g c ks known =
    let V = g.W.Link.seen.view in
    let was = g.F.Forward.asked c.args.forward.now in
    let p = standing c.args.reader.now.seen c.args.counts.now.answered in
    subst (λ (e : Event). TurnGives (deal_of e) (V c.args.wire.now).transcript (V c.begin.new.wire).transcript was was ks p c.begin.new.lives.items p) (sym c.in-Opened.is) (c.begin.ensures.turns ks p was known)

pub returns-in-Opened-clause-over : goal.returns-in-Opened-clause-over
returns-in-Opened-clause-over g c = sym (ap goes_on c.in-Opened.is)

pub returns-in-Piece-clause-turns : goal.returns-in-Piece-clause-turns
returns-in-Piece-clause-turns g c ks known =
    let V = g.W.Link.seen.view in
    let A = g.F.Forward.asked in
    let p = standing c.args.reader.now.seen c.args.counts.now.answered in
    let q = standing c.take.new.reader.seen c.take.new.counts.answered in
    let T : Deal → Type 0 = λ d. TurnGives d (V c.args.wire.now).transcript (V c.take.new.wire).transcript (A c.args.forward.now) (A c.take.new.forward) ks p c.take.new.lives.items q in
    subst (λ (e : Event). T (deal_of e)) (sym c.in-Piece.is) (subst (λ (b : List ℕ). T (Came c.in-Piece.number b)) c.as_slice.ensures (c.take.ensures.turns ks known))

pub returns-in-Piece-clause-over : goal.returns-in-Piece-clause-over
returns-in-Piece-clause-over g c = sym (ap goes_on c.in-Piece.is)

pub returns-in-Closed-clause-turns : goal.returns-in-Closed-clause-turns
returns-in-Closed-clause-turns g c ks known =
    let T = (g.W.Link.seen.view c.args.wire.now).transcript in
    let was = g.F.Forward.asked c.args.forward.now in
    let p = standing c.args.reader.now.seen c.args.counts.now.answered in
    subst (λ (e : Event). TurnGives (deal_of e) T T was was ks p c.forget.new.lives.items p) (sym c.in-Closed.is)
    (left_gives c.in-Closed.number T was ks p c.args.lives.now.items c.forget.new.lives.items c.forget.ensures known)

pub returns-in-Closed-clause-over : goal.returns-in-Closed-clause-over
returns-in-Closed-clause-over g c = sym (ap goes_on c.in-Closed.is)

pub returns-in-Closed-clause-leaves : goal.returns-in-Closed-clause-leaves
returns-in-Closed-clause-leaves g c =
    let T = (g.W.Link.seen.view c.args.wire.now).transcript in
    let old = c.args.lives.now.items in
    record {
      open_ = if_then T (λ items. AreOpenBut c.in-Closed.number items old) (λ items. AreOpen items c.forget.new.lives.items) c.forget.ensures.open_
          (subst (λ (e : Event). IfSome T (MayHandle e old)) c.in-Closed.is c.requires.may);
      link_faults = refl;
    }

pub returns-in-Ended-clause-turns : goal.returns-in-Ended-clause-turns
returns-in-Ended-clause-turns g c ks known =
    let T = (g.W.Link.seen.view c.args.wire.now).transcript in
    let was = g.F.Forward.asked c.args.forward.now in
    let p = standing c.args.reader.now.seen c.args.counts.now.answered in
    subst (λ (e : Event). TurnGives (deal_of e) T T was was ks p c.args.lives.now.items p) (sym c.in-Ended.is) (over_gives T was ks p c.args.lives.now.items known)

pub returns-in-Ended-clause-over : goal.returns-in-Ended-clause-over
returns-in-Ended-clause-over g c = sym (ap goes_on c.in-Ended.is)

pub returns-in-Ended-clause-leaves : goal.returns-in-Ended-clause-leaves
returns-in-Ended-clause-leaves g c = record {
  open_ = subst (λ (e : Event). IfSome (g.W.Link.seen.view c.args.wire.now).transcript (MayHandle e c.args.lives.now.items)) c.in-Ended.is c.requires.may;
  link_faults = refl;
}
