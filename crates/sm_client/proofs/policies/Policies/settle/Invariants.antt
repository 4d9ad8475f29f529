use Rattle.std.proofs.Common.{vec_len}
use Rattle.sm_client.proofs.Turns.{Settles}
use Rattle.sm_client.proofs.policies.Policies.settle.Given as goal

abbrev pub invariant-loop-self : goal.invariant-loop-self
invariant-loop-self g l =
    Settles
    (record {
      pick = λ b. (goal.Policy-dyn g (b.vtable, b.value)).pick_after b.value;
      retired = λ b. (goal.Policy-dyn g (b.vtable, b.value)).retired_after b.value;
    })
    l.initial.self.acting l.initial.self.rest.items l.self.acting l.self.rest.items

abbrev pub decreases-loop-self : goal.decreases-loop-self
decreases-loop-self g l = vec_len l.self.rest
