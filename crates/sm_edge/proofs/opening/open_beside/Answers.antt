use Rattle.sm_edge.proofs.Edges.{channel_there, edge_store}
use Rattle.sm_edge.proofs.opening.open_beside.Goals as goal

pub channel_of-requires : goal.channel_of-requires
channel_of-requires g c = channel_there g.D.Disk.seen _ _ c.in-Ok.archive c.args.disk.now c.open_declared.new.disk c.in-Ok.ensures.declared

pub returns-in-Ok-channel_of-clause-opened : goal.returns-in-Ok-channel_of-clause-opened
returns-in-Ok-channel_of-clause-opened g c =
    edge_store g.D.Disk.seen _ _ c.in-Ok.archive c.in-Ok-channel_of.channel c.args.disk.now c.open_declared.new.disk c.in-Ok.ensures.declared c.in-Ok-channel_of.ensures
