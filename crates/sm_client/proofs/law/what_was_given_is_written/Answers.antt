use Rattle.sm_client.proofs.Came.{part-answered, part-text, part-follow, part-behind}
use Rattle.sm_client.proofs.law.what_was_given_is_written.Goals as goal

pub returns-clause-answered : goal.returns-clause-answered
returns-clause-answered g c m plan name number start track track' part p = part-answered p

pub returns-clause-text : goal.returns-clause-text
returns-clause-text g c m plan name number start track track' part p = part-text p

pub returns-clause-follow : goal.returns-clause-follow
returns-clause-follow g c m plan name number start track track' part p = part-follow p

pub returns-clause-behind : goal.returns-clause-behind
returns-clause-behind g c m plan name number start track track' part p = part-behind p
