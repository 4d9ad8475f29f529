use Rattle.sm_command.proofs.Starting.{unseen_itself}
use Rattle.sm_command.proofs.start.prepare.Goals as goal

pub returns-clause-unseen : goal.returns-clause-unseen
returns-clause-unseen g c h serves = unseen_itself g.S.Disk.seen h c.args.state.now c.args.site.now serves
