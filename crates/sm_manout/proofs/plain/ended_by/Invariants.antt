use Rattle.std.proofs.Common.{◌≡◌, [], ◌++◌, drop}
use Rattle.sm_manout.specs.Shown.{ended_by}
use Rattle.sm_manout.proofs.plain.ended_by.Given as goal

abbrev pub invariant-loop-c : goal.invariant-loop-c
invariant-loop-c l = l.pieces.items ++ ended_by l.mark l.piece.items (drop l.c-index l.text) ≡ ended_by l.mark [] l.text
