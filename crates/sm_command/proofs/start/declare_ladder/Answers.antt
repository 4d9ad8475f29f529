use Rattle.sm_command.proofs.Starting.{unseen_itself}
use Rattle.sm_command.proofs.start.declare_ladder.Goals as goal

pub returns-in_err-channel-clause-unseen : goal.returns-in_err-channel-clause-unseen
returns-in_err-channel-clause-unseen g c h serves = unseen_itself g.S.Disk.seen h c.args.state.now c.args.site.now serves
