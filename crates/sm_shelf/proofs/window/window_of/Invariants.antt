use Rattle.std.proofs.Common.{◌≡◌, take}
use Rattle.sm_log.specs.Digests.{window_of}
use Rattle.sm_shelf.proofs.window.window_of.Given as goal

abbrev pub invariant-loop-fragment : goal.invariant-loop-fragment
invariant-loop-fragment l = l.window ≡ window_of (take l.fragment-index l.fragments)
