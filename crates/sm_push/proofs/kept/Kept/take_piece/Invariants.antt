use Rattle.std.proofs.Common.{length, ◌-◌, ◌≤◌}
use Rattle.sm_push.specs.Standing.{IsPartial, Grows}
use Rattle.sm_push.proofs.Steps.{Taking}
use Rattle.sm_push.proofs.kept.Kept.take_piece.Given as goal

abbrev pub invariant-loop-done : goal.invariant-loop-done
invariant-loop-done l = record {
  partial : IsPartial l.self;
  inside : l.done ≤ length l.piece;
  grows : Grows l.fn.self l.self;
  taking : Taking l.fn.self l.self l.piece l.done l.items;
}

abbrev pub decreases-loop-done : goal.decreases-loop-done
decreases-loop-done l = length l.piece - l.done
