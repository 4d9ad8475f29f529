use Rattle.std.proofs.Common.{◌≡◌, drop}
use Rattle.sm_push.specs.Header.{head_for}
use Rattle.sm_push.proofs.header.head_for.Given as goal

abbrev pub invariant-loop-head : goal.invariant-loop-head
invariant-loop-head l = head_for l.id (drop l.head-index l.heads) ≡ head_for l.id l.heads
