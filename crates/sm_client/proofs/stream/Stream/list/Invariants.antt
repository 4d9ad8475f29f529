use Rattle.sm_client.specs.Dials.{LeavesDial}
use Rattle.sm_client.proofs.Tries.{ListTried}
use Rattle.sm_client.proofs.stream.Stream.list.Given as goal

abbrev pub invariant-loop-done : goal.invariant-loop-done
invariant-loop-done g l = record {
  tried : ListTried l.self.plan.now l.self.name.now l.outcomes l.done (g.C.Dial.log l.initial.dial) (g.C.Dial.log l.dial);
  dial : LeavesDial g.C.Dial.log g.C.Dial.store g.C.Dial.later g.C.Dial.dial_faults g.C.Dial.chosen l.initial.dial l.dial l.outcomes;
}
