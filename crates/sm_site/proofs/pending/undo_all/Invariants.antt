use Rattle.std.proofs.Common.{◌≡◌, ℕ, vec_len}
use Rattle.sm_site.specs.Image.{bytes_of}
use Rattle.sm_site.specs.Past.{image_of, undone}
use Rattle.sm_site.proofs.pending.undo_all.Given as goal

abbrev pub invariant-loop-range : goal.invariant-loop-range
invariant-loop-range l = (file : ℕ) → undone file l.pending.items (bytes_of (image_of l.files.items) file) ≡ undone file l.fn.pending.items (bytes_of (image_of l.fn.files.items) file)

abbrev pub decreases-loop-range : goal.decreases-loop-range
decreases-loop-range l = vec_len l.pending
