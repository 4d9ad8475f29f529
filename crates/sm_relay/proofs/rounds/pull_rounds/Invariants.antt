use Rattle.std.proofs.Common.{List, None}
use Rattle.sm_model.specs.declared.entry.Entry.{Entry}
use Rattle.sm_archive.specs.Stands.{Stands}
use Rattle.sm_relay.specs.Ends.{Ran}
use Rattle.sm_relay.proofs.rounds.pull_rounds.Given as goal

abbrev pub invariant-loop-round : goal.invariant-loop-round
invariant-loop-round g l =
    (log : List Entry) → Stands l.initial.archive log None (g.D.Disk.seen.may_leave l.initial.disk)
    → Ran g.D.Disk.seen g.C.Dial.log g.C.Dial.store g.C.Dial.later g.C.Dial.dial_faults g.C.Dial.chosen l.plan l.channel
    l.initial.disk l.disk l.initial.dial l.dial l.initial.archive l.archive log l.round
