use Rattle.std.proofs.Common.{◌≡◌, ◌++◌, drop}
use Rattle.sm_push.specs.Header.{keys_of}
use Rattle.sm_push.proofs.header.keys_of.Given as goal

abbrev pub invariant-loop-i : goal.invariant-loop-i
invariant-loop-i l = l.keys.items ++ keys_of (drop l.i l.tracks) (drop l.i l.heads) ≡ keys_of l.tracks l.heads
