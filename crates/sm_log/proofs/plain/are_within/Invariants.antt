use Rattle.std.proofs.Common.{◌≡◌, ◌+◌, drop}
use Rattle.sm_log.specs.Digests.{bytes_of}
use Rattle.sm_log.proofs.plain.are_within.Given as goal

abbrev pub invariant-loop-fragment : goal.invariant-loop-fragment
invariant-loop-fragment l = l.left + bytes_of l.fragments ≡ l.most + bytes_of (drop l.fragment-index l.fragments)
