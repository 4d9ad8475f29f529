use Rattle.sm_timeline.proofs.Cells.{inserted_behind}
use Rattle.sm_timeline.proofs.row.insert_behind.Goals as goal

pub returns-clause-list : goal.returns-clause-list
returns-clause-list g c =
    rw (c.insert.ensures.items, c.insert.ensures.succeeds c.requires.room) (inserted_behind c.args.cells.now.items c.args.start c.args.place c.args.item c.requires.within)
