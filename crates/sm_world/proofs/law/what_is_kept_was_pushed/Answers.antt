use Rattle.sm_world.proofs.Standing.{comes_now}
use Rattle.sm_world.proofs.law.what_is_kept_was_pushed.Goals as goal

pub returns : goal.returns
returns g c w state site = comes_now g.S.Disk.seen w state site (g.met.S.Crashing.tells site).contents
