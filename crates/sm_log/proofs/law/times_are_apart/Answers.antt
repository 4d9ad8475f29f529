use Rattle.sm_log.proofs.AllLogs.{times_sound, listed_sound, apart}
use Rattle.sm_log.proofs.law.times_are_apart.Goals as goal

pub returns : goal.returns
returns c = record { spans = times_sound; listed = listed_sound; apart = apart }
