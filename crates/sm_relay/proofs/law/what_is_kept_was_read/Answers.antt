use Rattle.sm_relay.proofs.Reading.{round_read, broken_read}
use Rattle.sm_relay.proofs.law.what_is_kept_was_read.Goals as goal

pub returns : goal.returns
returns c = record { round = round_read; broken = broken_read }
