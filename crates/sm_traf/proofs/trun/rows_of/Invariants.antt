use Rattle.std.proofs.Common.{◌≡◌, ◌+◌, ◌*◌}
use Rattle.sm_model.specs.Numbers.{number32_at}
use Rattle.sm_model.specs.Fields.{rows, rows_at, row_len}
use Rattle.sm_traf.proofs.trun.rows_of.Given as goal

abbrev pub invariant-loop-i : goal.invariant-loop-i
invariant-loop-i l = record {
  rows : l.rows.items ≡ rows l.defaults l.body l.i;
  at : l.at ≡ rows_at (number32_at 0 l.body) + l.i * row_len (number32_at 0 l.body);
}
