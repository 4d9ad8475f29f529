use Rattle.std.proofs.Common.{◌+◌, ◌-◌, arith}
use Rattle.sm_timeline.proofs.Cells.{inserted_before}
use Rattle.sm_timeline.proofs.row.insert_in_front.Goals as goal

pub returns-clause-list : goal.returns-clause-list
returns-clause-list g c =
    rw c.copy_within.ensures.items (inserted_before c.args.cells.now.items c.args.start (c.args.start - 1) c.args.place (c.args.start + c.args.place - c.args.start) c.args.item
    (omega (arith, c.requires.free)) c.requires.within (omega arith))
