use Rattle.sm_relay.proofs.Reading.{round_short, broken_short}
use Rattle.sm_relay.proofs.law.rounds_are_short.Goals as goal

pub returns : goal.returns
returns c = record { round = round_short; broken = broken_short }
