use Rattle.sm_log.proofs.ListedKept.{channel_sound, spans_sound, few_sound}
use Rattle.sm_log.proofs.law.sound_logs_can_be_listed.Goals as goal

pub returns : goal.returns
returns c = record { channel = channel_sound; spans = spans_sound; few = few_sound }
