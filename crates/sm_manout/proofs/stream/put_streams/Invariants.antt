use Rattle.std.proofs.Common.{◌≡◌, ◌++◌, [], take, drop}
use Rattle.sm_log.specs.Adds.{listed}
use Rattle.sm_manout.specs.ManifestText.{streams_lines}
use Rattle.sm_manout.proofs.stream.put_streams.Given as goal

abbrev pub invariant-loop-i : goal.invariant-loop-i
invariant-loop-i l =
    l.out.items ++ streams_lines l.catalog.channel (listed l.catalog.channel l.catalog.adds) (take l.i l.channel) (drop l.i l.channel) ≡ l.initial.out.items ++ streams_lines l.catalog.channel
    (listed l.catalog.channel l.catalog.adds) [] l.catalog.channel
