use Rattle.std.proofs.Common.{◌≡◌, All}
use Rattle.std.specs.VecDeque.{deque_len}
use Rattle.sm_model.specs.Fragments.{IsValid}
use Rattle.sm_log.specs.Digests.{bytes_of, window_of}
use Rattle.sm_shelf.specs.Parts.{held_in}
use Rattle.sm_shelf.proofs.window.trim.Given as goal

abbrev pub invariant-loop-left : goal.invariant-loop-left
invariant-loop-left l = (window_of (held_in l.blocks.items) ≡ window_of (held_in l.initial.blocks.items)) × (l.left ≡ bytes_of (held_in l.blocks.items)) × All IsValid (held_in l.blocks.items)

abbrev pub decreases-loop-left : goal.decreases-loop-left
decreases-loop-left l = deque_len l.blocks
