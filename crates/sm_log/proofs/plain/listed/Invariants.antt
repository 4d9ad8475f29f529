use Rattle.std.proofs.Common.{◌≡◌, ◌++◌, drop, filter}
use Rattle.sm_log.specs.Adds.{is_listed}
use Rattle.sm_log.specs.Logs.{adds_of, listed_in}
use Rattle.sm_log.proofs.plain.listed.Given as goal

abbrev pub invariant-loop-time : goal.invariant-loop-time
invariant-loop-time l = l.listed.items ++ filter (is_listed l.channel (adds_of l.log) l.stream) (drop l.time-index l.time-items) ≡ listed_in l.log l.stream
