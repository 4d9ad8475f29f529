use Rattle.std.proofs.Common.{◌≡◌, ◌+◌, drop}
use Rattle.sm_model.specs.Frag.{sizes}
use Rattle.sm_moof.proofs.cut.lacks_bytes.Given as goal

abbrev pub invariant-loop-row : goal.invariant-loop-row
invariant-loop-row l = l.left + sizes l.rows ≡ l.room + sizes (drop l.row-index l.rows)
