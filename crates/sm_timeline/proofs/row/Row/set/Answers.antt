use Rattle.std.proofs.Common.{set, ap, ◌∙◌}
use Rattle.std.proofs.lemmas.List.{drop-set-add}
use Rattle.sm_timeline.specs.Rows.{RoomyList}
use Rattle.sm_timeline.proofs.row.Row.set.Goals as goal

pub returns-clause-list : goal.returns-clause-list
returns-clause-list g c =
    drop-set-add c.self.inside.start c.self.inside.cells.items c.args.place c.args.item
    ∙ ap (λ (r : RoomyList _). set r.list c.args.place c.args.item) c.self.view_is
