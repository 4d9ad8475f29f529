use Rattle.std.proofs.Common.{List, None, take}
use Rattle.sm_model.specs.declared.entry.Entry.{Entry}
use Rattle.sm_archive.specs.Stands.{Stands}
use Rattle.sm_log.specs.Adds.{tracks_of}
use Rattle.sm_relay.specs.Wants.{wants_at}
use Rattle.sm_relay.specs.Pulls.{Pulls}
use Rattle.sm_relay.proofs.stream.pull_time.Given as goal

abbrev pub invariant-loop-track : goal.invariant-loop-track
invariant-loop-track g l =
    (log : List Entry) → Stands l.initial.archive log None (g.D.Disk.seen.may_leave l.initial.disk)
    → Pulls g.D.Disk.seen g.C.Dial.log g.C.Dial.store g.C.Dial.later g.C.Dial.dial_faults g.C.Dial.chosen l.plan l.initial.disk l.disk l.initial.dial l.dial l.initial.archive l.archive log
    (wants_at l.stream.pattern l.time (tracks_of l.stream.name (take l.track-index l.channel)))
