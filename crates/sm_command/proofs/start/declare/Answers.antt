use Rattle.sm_command.proofs.Starting.{unseen_declared}
use Rattle.sm_command.proofs.start.declare.Goals as goal

pub returns-clause-unseen : goal.returns-clause-unseen
returns-clause-unseen g c h serves =
    unseen_declared g.S.Disk.seen h c.args.channel.now c.declare-answer.result c.declare-answer.new.self c.declare-answer.new.site (c.declare-answer.ensures.runs h serves)
