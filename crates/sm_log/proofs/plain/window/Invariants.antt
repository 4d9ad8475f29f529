use Rattle.std.proofs.Common.{◌≡◌, drop}
use Rattle.sm_log.specs.Digests.{window_of}
use Rattle.sm_log.proofs.plain.window.Given as goal

abbrev pub invariant-loop-i : goal.invariant-loop-i
invariant-loop-i l = window_of (drop l.i l.fragments) ≡ window_of l.fragments
