use Rattle.std.proofs.Common.{◌≡◌, ◌≤◌, ◌-◌, ◌++◌, ℕ, List, length, take}
use Rattle.sm_pick.specs.Search.{Looks}
use Rattle.sm_pick.proofs.search.Search.take.Given as goal

abbrev pub invariant-loop-done : goal.invariant-loop-done
invariant-loop-done l = record {
  inside : l.done ≤ length l.piece;
  looks : (b : List ℕ) → Looks l.fn.self b → Looks l.self (b ++ take l.done l.piece);
  track : l.self.track ≡ l.fn.self.track;
  time : l.self.time ≡ l.fn.self.time;
}

abbrev pub decreases-loop-done : goal.decreases-loop-done
decreases-loop-done l = length l.piece - l.done
