use Rattle.std.proofs.Common.{rules, arith, ◌<◌, length}
use Rattle.sm_shelf.proofs.Windows.{copied}
use Rattle.sm_shelf.proofs.window.Window.copy.Goals as goal

pub loop-i-preserved : goal.loop-i-preserved
loop-i-preserved c =
    let items = c.self.inside.blocks.items in
    let within : c.loop-i.i < length items = omega (arith, c.self.inside.blocks.ok.0, c.len-i-end.ensures, c.loop-i-test.true) in
    copied items c.loop-i.blocks.items c.push_back.new.self.items c.loop-i.i c.index.result.now c.in_ok-try_clone.field-0 c.loop-i.invariant within c.index.ensures (search rules) (search rules)
