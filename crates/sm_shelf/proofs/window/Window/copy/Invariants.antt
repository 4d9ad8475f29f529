use Rattle.std.proofs.Common.{◌≡◌, take}
use Rattle.sm_shelf.specs.Parts.{held_in}
use Rattle.sm_shelf.proofs.window.Window.copy.Given as goal

abbrev pub invariant-loop-i : goal.invariant-loop-i
invariant-loop-i l = held_in l.blocks.items ≡ take l.i (held_in l.self-inside.blocks.items)
