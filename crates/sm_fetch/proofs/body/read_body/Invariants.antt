use Rattle.std.proofs.Common.{length, ◌-◌}
use Rattle.sm_fetch.specs.Answered.{body_bytes}
use Rattle.sm_fetch.proofs.Framing.{IsReadTo}
use Rattle.sm_fetch.proofs.body.read_body.Given as goal

abbrev pub invariant-loop-count : goal.invariant-loop-count
invariant-loop-count l = IsReadTo l.fn.framing l.bytes l.at l.framer.place (body_bytes l.body)

abbrev pub decreases-loop-count : goal.decreases-loop-count
decreases-loop-count l = length l.bytes - l.at
