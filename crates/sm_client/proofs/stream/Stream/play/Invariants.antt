use Rattle.std.proofs.Common.{◌≡◌, ◌≢◌, ◌≤◌, ℕ, []}
use Rattle.std.specs.Io.KnownBytes.{Keeps}
use Rattle.sm_client.specs.Turns.{fresh}
use Rattle.sm_client.specs.Dials.{LeavesDial}
use Rattle.sm_client.specs.Calls.{HasLevels}
use Rattle.sm_client.proofs.Streaming.{Streaming}
use Rattle.sm_client.proofs.stream.Stream.play.Given as goal

abbrev pub invariant-loop : goal.invariant-loop
invariant-loop g l = record {
  streaming : Streaming
      (record {
        pick = λ b. (goal.Policy-dyn g (b.vtable, b.value)).pick_after b.value;
        retired = λ b. (goal.Policy-dyn g (b.vtable, b.value)).retired_after b.value;
      })
      l.self.plan.now l.self.name.now (fresh l.fn.policies.acting l.fn.policies.rest.items) (fresh l.policies.acting l.policies.rest.items)
      l.standing l.counter (g.C.Dial.log l.fn.dial) (g.C.Dial.log l.dial) (g.C.Dial.store l.fn.dial) (g.C.Dial.store l.dial) (g.T.Tracks.held l.fn.tracks l.self.number) (g.T.Tracks.held l.tracks l.self.number);
  levels : HasLevels l.standing.listing;
  written : l.standing.written ≡ l.counter;
  others : (k : ℕ) → k ≢ l.self.number → Keeps (g.T.Tracks.held l.fn.tracks k) (g.T.Tracks.held l.tracks k);
  dial : LeavesDial g.C.Dial.log g.C.Dial.store g.C.Dial.later g.C.Dial.dial_faults g.C.Dial.chosen l.fn.dial l.dial [];
  later : g.T.Tracks.faults l.fn.tracks ≤ g.T.Tracks.faults l.tracks;
}
