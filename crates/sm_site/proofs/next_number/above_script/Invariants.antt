use Rattle.std.proofs.Common.{ℕ, take}
use Rattle.sm_site.specs.NextNumber.{IsNumber}
use Rattle.sm_site.specs.Scripts.{deals_of, numbers_after}
use Rattle.sm_site.proofs.next_number.above_script.Given as goal

abbrev pub invariant-loop-event : goal.invariant-loop-event
invariant-loop-event l = (k : ℕ) → IsNumber l.fn.from k → IsNumber l.next (numbers_after k (deals_of (take l.event-index l.script)))
