use Rattle.std.proofs.Common.{◌≡◌, ◌≤◌, ◌++◌, ◌-◌, drop, length}
use Rattle.std.specs.List.{flat_map}
use Rattle.sm_fetch.specs.Requests.{chunk, pieces}
use Rattle.sm_fetch.proofs.request.put_chunks.Given as goal

abbrev pub invariant-loop-at : goal.invariant-loop-at
invariant-loop-at l = record {
  within : l.at ≤ length l.body;
  joined : l.out.items ++ flat_map chunk (pieces (drop l.at l.body)) ≡ l.initial.out.items ++ flat_map chunk (pieces l.body);
}

abbrev pub decreases-loop-at : goal.decreases-loop-at
decreases-loop-at l = length l.body - l.at
