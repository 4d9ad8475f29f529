use Rattle.sm_shelf.proofs.Answered.{adds_are, held_is_kept, reply_is}
use Rattle.sm_shelf.proofs.law.digests_answer_as_logs.Goals as goal

pub returns-clause-adds : goal.returns-clause-adds
returns-clause-adds c log sound = adds_are log sound

pub returns-clause-kept : goal.returns-clause-kept
returns-clause-kept c log a place f sound held = held_is_kept log a place f sound held

pub returns-clause-reply : goal.returns-clause-reply
returns-clause-reply c log act text sound is = reply_is log act text sound is
