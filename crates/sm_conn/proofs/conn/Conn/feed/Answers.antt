use Rattle.sm_conn.proofs.PartsLaw.{reads_on}
use Rattle.sm_conn.proofs.conn.Conn.feed.Goals as goal

pub returns-in-Ok-clause-stands : goal.returns-in-Ok-clause-stands
returns-in-Ok-clause-stands c bytes items stands = reads_on _ _ _ _ _ _ _ stands c.in-Ok.ensures
