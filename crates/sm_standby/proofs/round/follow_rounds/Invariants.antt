use Rattle.std.proofs.Common.{List, [], None}
use Rattle.sm_model.specs.declared.entry.Entry.{Entry}
use Rattle.sm_archive.specs.Stands.{Stands}
use Rattle.sm_standby.specs.Waiting.{AreOpen}
use Rattle.sm_standby.specs.Rounds.{Rounds}
use Rattle.sm_standby.proofs.round.follow_rounds.Given as goal

abbrev pub invariant-loop-round : goal.invariant-loop-round
invariant-loop-round g l = record {
  some : (log : List Entry) × Stands l.archive log None (g.D.Disk.seen.may_leave l.disk) × AreOpen log l.held;
  rounds : (log : List Entry) → Stands l.initial.archive log None (g.D.Disk.seen.may_leave l.initial.disk)
      → Rounds g.D.Disk.seen g.C.Dial.log g.C.Dial.store g.C.Dial.later g.C.Dial.dial_faults g.C.Dial.chosen l.initial.disk l.disk l.initial.dial l.dial l.plan l.channel
      l.initial.archive l.archive log [] l.held l.round;
}
