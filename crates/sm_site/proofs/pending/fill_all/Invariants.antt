use Rattle.std.proofs.Common.{◌≡◌, ℕ, [], vec_len}
use Rattle.sm_site.specs.Image.{bytes_of}
use Rattle.sm_site.specs.Past.{image_of, filled, ranges_from}
use Rattle.sm_site.proofs.pending.fill_all.Given as goal

abbrev pub invariant-loop-range : goal.invariant-loop-range
invariant-loop-range l = (file : ℕ) → bytes_of (filled l.byte (image_of l.files.items) (ranges_from [] l.pending.items)) file ≡ bytes_of (filled l.byte (image_of l.fn.files.items) (ranges_from [] l.fn.pending.items)) file

abbrev pub decreases-loop-range : goal.decreases-loop-range
decreases-loop-range l = vec_len l.pending
