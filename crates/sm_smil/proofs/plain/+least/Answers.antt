use Rattle.sm_smil.proofs.PlainLemmas.{least_all}
use Rattle.sm_smil.proofs.plain.+least.Goals as goal

pub returns-in-Some : goal.returns-in-Some
returns-in-Some t c = least_all c.args.places.now 0 _ _ c.in-len1-up.len_at_least (rw c.in-Some.is at c.least.ensures) c.min.ensures
