use Rattle.sm_standby.proofs.Bounds.{round_few}
use Rattle.sm_standby.proofs.law.rounds_are_bounded.Goals as goal

pub returns : goal.returns
returns c = λ plan channel log later held still r is. round_few plan channel log later held still r is
