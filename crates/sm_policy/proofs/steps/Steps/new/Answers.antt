use Rattle.std.proofs.Common.{◌-◌, [], length, min, ap, refl}
use Rattle.sm_policy.proofs.Climbs.{climbs}
use Rattle.sm_policy.proofs.steps.Steps.new.Goals as goal

pub returns-clause-picks : goal.returns-clause-picks
returns-clause-picks c hs ladder ahead = ap (λ n. min n (length ladder - 1)) (climbs hs [] 0 0 refl refl)
