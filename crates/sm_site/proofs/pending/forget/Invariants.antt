use Rattle.std.proofs.Common.{◌≡◌, ◌≤◌, ◌-◌, ◌++◌, length, take, drop, filter, vec_len}
use Rattle.sm_site.proofs.Kept.{is_other}
use Rattle.sm_site.proofs.pending.forget.Given as goal

abbrev pub invariant-loop-i : goal.invariant-loop-i
invariant-loop-i l = record { within : l.i ≤ length l.pending.items; same : take l.i l.pending.items ++ filter (is_other l.file) (drop l.i l.pending.items) ≡ filter (is_other l.file) l.fn.pending.items }

abbrev pub decreases-loop-i : goal.decreases-loop-i
decreases-loop-i l = vec_len l.pending - l.i
