use Rattle.sm_client.proofs.Playing.{played-by, kept-by, served-by}
use Rattle.sm_client.proofs.call.play.Goals as goal

pub returns-clause-played : goal.returns-clause-played
returns-clause-played g c =
    played-by c.args.policies.items c.requires.policy c.new-policies.ensures.first c.new-policies.ensures.rest c.settle.ensures c.play_all.ensures.plays.plays

pub returns-clause-kept : goal.returns-clause-kept
returns-clause-kept g c =
    kept-by c.args.policies.items c.requires.policy c.new-policies.ensures.first c.new-policies.ensures.rest c.settle.ensures c.play_all.ensures.plays

pub returns-clause-served : goal.returns-clause-served
returns-clause-served g c =
    served-by c.args.policies.items c.requires.policy c.new-policies.ensures.first c.new-policies.ensures.rest c.settle.ensures c.play_all.ensures.plays.plays
