use Rattle.std.proofs.Common.{◌+◌, ◌-◌, []}
use Rattle.sm_client.specs.Dials.{LeavesDial}
use Rattle.sm_client.proofs.Seeks.{Seeking}
use Rattle.sm_client.proofs.stream.Stream.seek.Given as goal

abbrev pub invariant-loop-standing : goal.invariant-loop-standing
invariant-loop-standing g l = record {
  seeking : Seeking l.self.plan.now l.self.name.now l.initial.standing l.standing (g.C.Dial.log l.initial.dial) (g.C.Dial.log l.dial);
  dial : LeavesDial g.C.Dial.log g.C.Dial.store g.C.Dial.later g.C.Dial.dial_faults g.C.Dial.chosen l.initial.dial l.dial [];
}

abbrev pub decreases-loop-standing : goal.decreases-loop-standing
decreases-loop-standing g l = l.self.plan.now.refresh + 1 - l.standing.manifests
