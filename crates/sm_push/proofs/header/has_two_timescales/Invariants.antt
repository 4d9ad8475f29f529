use Rattle.std.proofs.Common.{◌≡◌, drop}
use Rattle.sm_push.specs.Header.{has_two_timescales}
use Rattle.sm_push.proofs.header.has_two_timescales.Given as goal

abbrev pub invariant-loop-i : goal.invariant-loop-i
invariant-loop-i l = has_two_timescales (drop l.i l.tracks) ≡ has_two_timescales l.tracks
