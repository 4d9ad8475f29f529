use Rattle.sm_pick.proofs.Searching.{has_id}
use Rattle.sm_pick.proofs.seek.is_fragment.Goals as goal

pub returns : goal.returns
returns c d = has_id c.args.items.now c.args.index c.id.result c.is_some.result c.id.ensures c.is_some.ensures c.requires d
