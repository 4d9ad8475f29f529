use Rattle.std.proofs.Common.{[], refl, ap}
use Rattle.sm_conn.specs.Parts.{in_head}
use Rattle.sm_conn.proofs.PartsLaw.{nothing_yet}
use Rattle.sm_conn.proofs.conn.Conn.new.Goals as goal

pub returns : goal.returns
returns c = nothing_yet _ _ [] refl refl (ap (λ k. in_head k) c.new.ensures.items)
