use Rattle.std.proofs.Common.{◌≡◌, ◌≤◌, length, take}
use Rattle.sm_site.specs.Past.{numbers_of}
use Rattle.sm_site.proofs.next_number.above_past.Given as goal

abbrev pub invariant-loop-at : goal.invariant-loop-at
invariant-loop-at l = record { within : l.at ≤ length l.past; last : numbers_of l.past ≡ numbers_of (take l.at l.past) }

abbrev pub decreases-loop-at : goal.decreases-loop-at
decreases-loop-at l = l.at
