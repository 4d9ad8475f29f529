use Rattle.sm_model.proofs.OrderLemmas.{frag_in_two}
use Rattle.sm_model.proofs.law.frag_is_in_two_steps.Goals as goal

pub returns : goal.returns
returns c = λ d m md. frag_in_two d m md
