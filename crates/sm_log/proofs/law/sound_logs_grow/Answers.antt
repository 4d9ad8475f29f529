use Rattle.sm_log.proofs.AllLogs.{sound_front, sound_push}
use Rattle.sm_log.proofs.law.sound_logs_grow.Goals as goal

pub returns : goal.returns
returns c = record { front = sound_front; push = sound_push }
