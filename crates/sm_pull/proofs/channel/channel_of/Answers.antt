use Rattle.std.proofs.Common.{◌≡◌, ◌∙◌, None, Some, sym}
use Rattle.sm_pull.proofs.channel.channel_of.Goals as goal

pub unreachable-requires : goal.unreachable-requires
unreachable-requires c = let r = c.requires in let e : None ≡ Some r.4 = sym (c.in-None.ensures r.0 r.1 r.2 r.3 r.5) ∙ r.6 in cc
