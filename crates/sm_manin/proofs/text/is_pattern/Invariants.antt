use Rattle.std.proofs.Common.{◌≡◌, drop}
use Rattle.sm_manin.specs.Patterns.{pattern_from, is_pattern}
use Rattle.sm_manin.proofs.text.is_pattern.Given as goal

abbrev pub invariant-loop-i : goal.invariant-loop-i
invariant-loop-i l = pattern_from l.skip l.bitrate l.start (drop l.i l.text) ≡ is_pattern l.text
