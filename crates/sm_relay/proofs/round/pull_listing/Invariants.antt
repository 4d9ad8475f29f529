use Rattle.std.proofs.Common.{List, None, take}
use Rattle.sm_model.specs.declared.entry.Entry.{Entry}
use Rattle.sm_archive.specs.Stands.{Stands}
use Rattle.sm_relay.proofs.Wanted.{front_wants}
use Rattle.sm_relay.specs.Pulls.{Pulls}
use Rattle.sm_relay.proofs.round.pull_listing.Given as goal

abbrev pub invariant-loop-at : goal.invariant-loop-at
invariant-loop-at g l =
    (log : List Entry) → Stands l.initial.archive log None (g.D.Disk.seen.may_leave l.initial.disk)
    → Pulls g.D.Disk.seen g.C.Dial.log g.C.Dial.store g.C.Dial.later g.C.Dial.dial_faults g.C.Dial.chosen l.plan l.initial.disk l.disk l.initial.dial l.dial l.initial.archive l.archive log
    (front_wants l.channel l.listing (take l.at l.channel))
