use Rattle.std.proofs.Common.{◌≡◌, ◌+◌, ◌*◌, ◌∙◌, ◌++◌, ◌∷◌, [], List, ap, sym, arith}
use Rattle.sm_model.specs.declared.run.Row.{Row}
use Rattle.sm_model.specs.Numbers.{number32_at}
use Rattle.sm_model.specs.Fields.{row, rows, row_len, rows_at}
use Rattle.sm_traf.proofs.RowLemmas.{row_here, next_place, rows_more}
use Rattle.sm_traf.proofs.trun.rows_of.Goals as goal

pub loop-i-preserved : goal.loop-i-preserved
loop-i-preserved c =
    let d = c.args.defaults.now in
    let b = c.args.body.now in
    let place : c.loop-i.at ≡ rows_at (number32_at 0 b) + c.loop-i.i * row_len (number32_at 0 b) = c.loop-i.invariant.at in
    let here : c.row_at.result ≡ row d b c.loop-i.i = grind (arith, row_here d b c.loop-i.i c.loop-i.at place) in
    record {
      rows = c.in_ok-push.ensures.items ∙ ap (λ (xs : List Row). xs ++ c.row_at.result ∷ []) c.loop-i.invariant.rows ∙ ap (λ (x : Row). rows d b c.loop-i.i ++ x ∷ []) here ∙ sym (rows_more d b c.loop-i.i);
      at = grind (arith, next_place (rows_at (number32_at 0 b)) c.loop-i.i (row_len (number32_at 0 b)) c.loop-i.at place);
    }
