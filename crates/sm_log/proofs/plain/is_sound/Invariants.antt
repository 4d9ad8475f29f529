use Rattle.std.proofs.Common.{take}
use Rattle.sm_log.specs.Logs.{IsSound}
use Rattle.sm_log.proofs.plain.is_sound.Given as goal

abbrev pub invariant-loop-i : goal.invariant-loop-i
invariant-loop-i l = IsSound (take l.i l.log)
