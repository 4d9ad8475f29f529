use Rattle.sm_standby.proofs.Rounding.{called_none}
use Rattle.sm_standby.proofs.call.follow_store.Goals as goal

pub returns-in-Err : goal.returns-in-Err
returns-in-Err g c = λ log channel s is. called_none g.met.D.Disk.no_later g.met.C.Dial.later_same g.met.C.Dial.later_then c.args.disk.now c.args.dial.now c.args.archive.now log c.requires.rounds s
