use Rattle.std.proofs.Common.{◌≡◌, ◌≤◌, ◌*◌, []}
use Rattle.sm_client.specs.Dials.{LeavesDial}
use Rattle.sm_client.specs.Turns.{fresh}
use Rattle.sm_client.proofs.Playing.{Playing}
use Rattle.sm_client.proofs.call.play_all.Given as goal

abbrev pub invariant-loop-name : goal.invariant-loop-name
invariant-loop-name g l = record {
  playing : Playing
      (record {
        pick = λ b. (goal.Policy-dyn g (b.vtable, b.value)).pick_after b.value;
        retired = λ b. (goal.Policy-dyn g (b.vtable, b.value)).retired_after b.value;
      })
      l.plan (fresh l.fn.policies.acting l.fn.policies.rest.items) (fresh l.policies.acting l.policies.rest.items)
      l.names l.number l.played (g.C.Dial.log l.fn.dial) (g.C.Dial.log l.dial) (g.C.Dial.store l.fn.dial) (g.C.Dial.store l.dial) (g.T.Tracks.held l.fn.tracks) (g.T.Tracks.held l.tracks);
  place : l.number ≡ l.name-index;
  few : l.played ≤ l.number * 4294967295;
  dial : LeavesDial g.C.Dial.log g.C.Dial.store g.C.Dial.later g.C.Dial.dial_faults g.C.Dial.chosen l.fn.dial l.dial [];
  later : g.T.Tracks.faults l.fn.tracks ≤ g.T.Tracks.faults l.tracks;
}
