use Rattle.sm_standby.proofs.Spelling.{turns_spelled}
use Rattle.sm_standby.proofs.law.what_is_kept_was_read.Goals as goal

pub returns : goal.returns
returns c = λ plan channel listing s e turns legal place f there le. turns_spelled plan channel listing s e turns legal place f there le
