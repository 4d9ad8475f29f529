use Rattle.sm_promises.proofs.Looping.{publishes}
use Rattle.sm_promises.proofs.law.what_players_read_is_kept.Goals as goal

pub returns : goal.returns
returns g c m before after ran s players is found base begins some =
    publishes g.S.Disk.seen g.met.S.Disk.contents_pass c.stores_have_one_reading.ensures.one_list c.bodies_have_one_log.ensures _ m before after ran s players is found base begins some
