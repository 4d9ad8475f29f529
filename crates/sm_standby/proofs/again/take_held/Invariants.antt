use Rattle.std.proofs.Common.{List, None, length}
use Rattle.sm_model.specs.declared.address.Address.{Address}
use Rattle.sm_model.specs.declared.entry.Entry.{Entry}
use Rattle.sm_archive.specs.Stands.{Stands}
use Rattle.sm_standby.specs.Waiting.{AreOpen}
use Rattle.sm_standby.specs.Followed.{at, Follows}
use Rattle.sm_standby.proofs.again.take_held.Given as goal

abbrev pub invariant-loop-took : goal.invariant-loop-took
invariant-loop-took g l = record {
  some : (log : List Entry) × Stands l.archive log None (g.D.Disk.seen.may_leave l.disk) × AreOpen log l.held;
  follows : (log : List Entry) (rest : List Address) → Stands l.initial.archive log None (g.D.Disk.seen.may_leave l.initial.disk) → AreOpen log l.initial.held
      → Follows g.D.Disk.seen g.C.Dial.log g.C.Dial.store g.C.Dial.later g.C.Dial.dial_faults g.C.Dial.chosen l.initial.disk l.disk l.initial.dial l.dial l.plan l.channel l.listing
      l.initial.archive l.archive (at log l.initial.held rest) l.held rest;
}

abbrev pub decreases-loop-took : goal.decreases-loop-took
decreases-loop-took g l = length l.held
