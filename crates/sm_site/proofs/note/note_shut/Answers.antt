use Rattle.std.proofs.Common.{arith}
use Rattle.sm_site.proofs.Connections.{to_in}
use Rattle.sm_site.proofs.note.note_shut.Goals as goal

pub returns-clause-room : goal.returns-clause-room
returns-clause-room c =
    let shorter = c.take_out.ensures.shorter (to_in c.args.conn c.args.live.now.items c.requires.within) in
    omega (arith, shorter, c.requires.room, c.push.ensures.capacity, c.in-Ok.ensures.len)
