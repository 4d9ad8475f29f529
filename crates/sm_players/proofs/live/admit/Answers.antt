use Rattle.std.proofs.Common.{refl}
use Rattle.sm_players.proofs.live.admit.Goals as goal

pub returns-clause-admitted : goal.returns-clause-admitted
returns-clause-admitted c =
    (record { number = c.args.number; conn = c.in_ok-conn.conn }, record { number_is = refl; stands = c.in_ok-conn.ensures }, c.in_ok-push.ensures.items)
