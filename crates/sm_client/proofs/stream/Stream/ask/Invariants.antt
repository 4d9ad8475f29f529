use Rattle.sm_client.specs.Dials.{LeavesDial}
use Rattle.sm_client.specs.Turns.{fresh}
use Rattle.sm_client.proofs.Tries.{PieceTried}
use Rattle.sm_client.proofs.stream.Stream.ask.Given as goal

abbrev pub invariant-loop-done : goal.invariant-loop-done
invariant-loop-done g l = record {
  tried : PieceTried
      (record {
        pick = λ b. (goal.Policy-dyn g (b.vtable, b.value)).pick_after b.value;
        retired = λ b. (goal.Policy-dyn g (b.vtable, b.value)).retired_after b.value;
      })
      l.self.plan.now l.self.name.now l.wanted
      (fresh l.initial.policies.acting l.initial.policies.rest.items) (fresh l.policies.acting l.policies.rest.items)
      l.outcomes l.done (g.C.Dial.log l.initial.dial) (g.C.Dial.log l.dial);
  dial : LeavesDial g.C.Dial.log g.C.Dial.store g.C.Dial.later g.C.Dial.dial_faults g.C.Dial.chosen l.initial.dial l.dial l.outcomes;
}
