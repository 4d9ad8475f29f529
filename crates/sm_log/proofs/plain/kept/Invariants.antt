use Rattle.std.proofs.Common.{◌≡◌, drop}
use Rattle.sm_log.specs.Adds.{place_of}
use Rattle.sm_log.specs.Logs.{adds_from, adds_of}
use Rattle.sm_log.proofs.plain.kept.Given as goal

abbrev pub invariant-loop-i : goal.invariant-loop-i
invariant-loop-i l =
    place_of (record { stream = l.stream; bitrate = l.bitrate; time = l.time }) (adds_from l.i (drop l.i l.log)) ≡ place_of (record { stream = l.stream; bitrate = l.bitrate; time = l.time }) (adds_of l.log)
