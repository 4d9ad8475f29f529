use Rattle.std.proofs.Common.{arith, ap, length}
use Rattle.std.proofs.lemmas.List.{length-map}
use Rattle.std.specs.Arc.{arc_value}
use Rattle.sm_shelf.proofs.Windows.{valid_at}
use Rattle.sm_shelf.proofs.window.Window.block.Goals as goal

pub returns-clause-valid : goal.returns-clause-valid
returns-clause-valid c =
    let items = c.self.inside.blocks.items in
    let long = length-map items arc_value in
    let same = ap length c.self.view_is in
    valid_at items c.args.index c.index.result.now c.self.invariant.valid (omega (arith, c.requires, long, same)) c.index.ensures
