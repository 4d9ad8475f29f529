use Rattle.std.proofs.Common.{rules}
use Rattle.sm_shelf.proofs.Windows.{next_window}
use Rattle.sm_shelf.proofs.window.window_of.Goals as goal

pub loop-fragment-preserved : goal.loop-fragment-preserved
loop-fragment-preserved c =
    next_window c.args.fragments.now c.loop-fragment.window c.push.new.self c.loop-fragment.fragment-index c.fragment-item.result c.loop-fragment.invariant
    (search rules) (search rules) (search rules)
