use Rattle.std.proofs.Common.{◌≡◌, ◌++◌, drop}
use Rattle.sm_push.specs.Header.{tracks_of}
use Rattle.sm_push.proofs.header.tracks_of.Given as goal

abbrev pub invariant-loop-i : goal.invariant-loop-i
invariant-loop-i l = l.timed.items ++ tracks_of (drop l.i l.tracks) (drop l.i l.heads) ≡ tracks_of l.tracks l.heads
