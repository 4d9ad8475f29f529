use Rattle.sm_pull.proofs.BelowStays.{below_front, below_grows}
use Rattle.sm_pull.proofs.law.below_stays.Goals as goal

pub returns : goal.returns
returns c = record { front = below_front; grows = below_grows }
