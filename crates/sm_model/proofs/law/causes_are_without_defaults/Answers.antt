use Rattle.sm_model.proofs.OrderLemmas.{moof_run_same}
use Rattle.sm_model.proofs.law.causes_are_without_defaults.Goals as goal

pub returns : goal.returns
returns c = λ d other m cause h. moof_run_same d other m cause h
