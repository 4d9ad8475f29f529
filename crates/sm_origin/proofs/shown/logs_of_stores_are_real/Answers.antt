use Rattle.sm_log.specs.Logs.{channel_of}
use Rattle.sm_origin.proofs.Real.{real_front, spelled_fit}
use Rattle.sm_origin.proofs.shown.logs_of_stores_are_real.Goals as goal

pub returns : goal.returns
returns c = record {
  front = λ log more real. real_front c.sound_logs_grow.ensures.front log more real;
  store = λ log image store. record { sound = store.sound; each = spelled_fit (channel_of log) log store.bodies store.spell };
}
