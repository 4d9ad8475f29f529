use Rattle.sm_serve.proofs.Later.{grown}
use Rattle.sm_serve.proofs.law.turns_grow.Goals as goal

pub returns : goal.returns
returns c h k run later since = grown h k run later since
