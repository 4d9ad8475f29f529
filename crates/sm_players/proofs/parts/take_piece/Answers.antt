use Rattle.std.proofs.Common.{List, [], ◌++◌, refl, sym, subst}
use Rattle.sm_conn.specs.declared.part.Part.{Part}
use Rattle.sm_conn.specs.Stands.{joined, StandsFor}
use Rattle.sm_players.specs.Taking.{taken, unread}
use Rattle.sm_players.proofs.Going.{behind_nil}
use Rattle.sm_players.proofs.parts.take_piece.Goals as goal

pub returns-in-Ok-clause-gives : goal.returns-in-Ok-clause-gives
returns-in-Ok-clause-gives g c =
    let t = c.take_parts.ensures.takes in (
      t.0,
      t.1,
      t.2,
      t.3,
      λ bytes given stands. taken (joined c.into_vec.result.items)
          (subst (λ (qs : List Part). StandsFor c.feed.new.self (bytes ++ c.args.piece.now) (given ++ joined qs)) (sym c.into_vec.ensures) (c.in-Ok.ensures.stands bytes given stands)) t.4,
    )

pub returns-in-Err-clause-gives : goal.returns-in-Err-clause-gives
returns-in-Err-clause-gives g c =
    let t = c.starve.ensures.goes in
    (t.0, [], t.1, behind_nil (g.F.Forward.asked c.args.forward.now), λ bytes given stands. unread c.starve.result t.2 refl refl refl)
