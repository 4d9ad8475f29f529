use Rattle.std.proofs.Common.{◌≡◌, ◌-◌, List, None, length}
use Rattle.sm_model.specs.declared.entry.Entry.{Entry}
use Rattle.sm_archive.specs.Stands.{Stands}
use Rattle.sm_standby.specs.Waiting.{AreOpen, due}
use Rattle.sm_standby.specs.Candidates.{addresses_by, rows, longest}
use Rattle.sm_standby.specs.Followed.{at, Follows}
use Rattle.sm_standby.proofs.following.follow_all.Given as goal

abbrev pub invariant-loop-place : goal.invariant-loop-place
invariant-loop-place g l = record {
  some : (log : List Entry) × Stands l.archive log None (g.D.Disk.seen.may_leave l.disk) × AreOpen log l.held × (due (length log) l.held ≡ None);
  follows : (log : List Entry) → Stands l.initial.archive log None (g.D.Disk.seen.may_leave l.initial.disk) → AreOpen log l.initial.held → due (length log) l.initial.held ≡ None
      → (f : Follows g.D.Disk.seen g.C.Dial.log g.C.Dial.store g.C.Dial.later g.C.Dial.dial_faults g.C.Dial.chosen l.initial.disk l.disk l.initial.dial l.dial l.plan l.channel
      l.listing l.initial.archive l.archive (at log l.initial.held (addresses_by l.channel l.all)) l.held (rows l.channel l.all l.place (longest l.all - l.place))) × (due (length f.log) l.held ≡
      None);
}
