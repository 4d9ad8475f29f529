use Rattle.std.proofs.Common.{refl}
use Rattle.std.specs.Fmt.{digits}
use Rattle.sm_head.specs.Replies.{phrase}
use Rattle.sm_serve.proofs.law.too_many_is_told.Goals as goal

pub returns : goal.returns
unfolding phrase digits
returns c = refl
