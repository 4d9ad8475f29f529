use Rattle.std.proofs.Common.{◌≤◌, ◌-◌, length}
use Rattle.sm_fetch.specs.Answered.{IsBehindInterim}
use Rattle.sm_fetch.proofs.reply.read_reply.Given as goal

abbrev pub invariant-loop-length : goal.invariant-loop-length
invariant-loop-length l = record { within : l.at ≤ length l.bytes; behind : IsBehindInterim l.bytes l.at }

abbrev pub decreases-loop-length : goal.decreases-loop-length
decreases-loop-length l = length l.bytes - l.at
