use Rattle.std.proofs.Common.{ℕ, [], refl, ap, subst, arith}
use Rattle.sm_conn.specs.Stands.{items_of}
use Rattle.sm_players.specs.Taking.{standing, Handles, skips}
use Rattle.sm_players.proofs.Going.{goes_nil, behind_nil}
use Rattle.sm_players.proofs.parts.take_part.Goals as goal

pub returns-in-Continue-clause-handles : goal.returns-in-Continue-clause-handles
returns-in-Continue-clause-handles g c =
    ([], [], goes_nil (g.W.Link.seen.view c.args.wire.now).transcript, behind_nil (g.F.Forward.asked c.args.forward.now), skips (ap items_of c.in-Continue.is) refl refl refl refl)

pub returns-in-Continue-clause-leaves : goal.returns-in-Continue-clause-leaves
returns-in-Continue-clause-leaves g c =
    record { wire = record { live = λ open_. c.requires.live; others = λ m other live. live; link_faults = refl }; later = omega arith }

pub returns-clause-handles : goal.returns-clause-handles
returns-clause-handles g c =
    let r = c.reply_for-reply.ensures in
    let s = c.send_reply-open.ensures.handles in
    let seen = c.args.reader.now.seen in
    let seen' = c.reply_for-reply.new.reader.seen in
    let items = items_of c.args.part in (
      s.0,
      r.asked,
      s.1,
      r.asks,
      subst (λ (n : ℕ). Handles c.args.number (standing seen n) items s.0 r.asked c.send_reply-open.result (standing seen' c.send_reply-open.new.counts.answered)) c.begin-call.ensures (s.2 seen seen' items r.asked r.means),
    )
