use Rattle.std.proofs.Common.{sym, ◌∙◌}
use Rattle.sm_tag.proofs.PlainLemmas.{piece_read, no_piece, goes_further}
use Rattle.sm_tag.proofs.plain.piece_of.Goals as goal

pub returns-then-is_empty : goal.returns-then-is_empty
returns-then-is_empty c =
    piece_read c.args.piece.now 0 _ _ c.in-len1-up.len_at_least c.if-first-ne60.false c.in-Ok.ensures (sym c.is_empty.ensures ∙ c.if-is_empty.true)

pub returns-else-is_empty : goal.returns-else-is_empty
returns-else-is_empty c =
    no_piece c.args.piece.now 0 _ c.in-len1-up.len_at_least c.if-first-ne60.false c.in-Ok.ensures
    (goes_further c.in-Ok.markup c.in-Ok.rest.now (sym c.is_empty.ensures ∙ c.if-is_empty.false))

pub returns-in-Err-Short : goal.returns-in-Err-Short
returns-in-Err-Short c = no_piece c.args.piece.now 0 _ c.in-len1-up.len_at_least c.if-first-ne60.false (rw c.in-Err-Short.field-0-is at c.in-Err-Short.ensures) (λ m e. cc e)

pub returns-in-Err-Wrong : goal.returns-in-Err-Wrong
returns-in-Err-Wrong c = no_piece c.args.piece.now 0 _ c.in-len1-up.len_at_least c.if-first-ne60.false (rw c.in-Err-Wrong.field-0-is at c.in-Err-Wrong.ensures) (λ m e. cc e)
