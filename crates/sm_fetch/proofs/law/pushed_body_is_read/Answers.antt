use Rattle.sm_fetch.proofs.Pushes.{push_ends, push_is_body}
use Rattle.sm_fetch.proofs.law.pushed_body_is_read.Goals as goal

pub returns : goal.returns
returns c = record { ends = push_ends; body = push_is_body }
