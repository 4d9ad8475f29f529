use Rattle.sm_log.proofs.AllLogs.{older_sound}
use Rattle.sm_log.proofs.law.older_logs_are_sound.Goals as goal

pub returns : goal.returns
returns c = older_sound
