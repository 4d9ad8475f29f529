use Rattle.std.proofs.Common.{sym, ◌∙◌}
use Rattle.std.proofs.lemmas.Result.{err_from_is_err_and}
use Rattle.sm_tag.specs.TagParts.{ended, twice}
use Rattle.sm_tag.proofs.PlainLemmas.{unmarked_fails, broken_fails, another_by}
use Rattle.sm_tag.proofs.plain.+tail_of.Goals as goal

pub returns-in_err-mark : goal.returns-in_err-mark
returns-in_err-mark t c =
    let p = err_from_is_err_and c.from_residual.result c.from_residual.ensures.1 in
    rw (p.1, p.2) (unmarked_fails _ _ _ c.in_err-mark.ensures.read)

pub returns-in-Some : goal.returns-in-Some
returns-in-Some t c = ended (rw c.in-Some.is at c.in_ok-mark.ensures.read)

pub returns-in_err-name : goal.returns-in_err-name
returns-in_err-name t c =
    let p = err_from_is_err_and c.from_residual-in_err-name.result c.from_residual-in_err-name.ensures.1 in
    rw (p.1, p.2) (broken_fails _ _ _ _ (rw c.in_default.is at c.in_ok-mark.ensures.read) c.in_err-name.ensures.read)

pub returns-then-has_name : goal.returns-then-has_name
returns-then-has_name t c =
    twice (rw c.in_default.is at c.in_ok-mark.ensures.read) c.in_ok-name.ensures.read (sym (rw c.deref.ensures.value at c.has_name.ensures) ∙ c.if-has_name.true)

pub returns : goal.returns
returns t c =
    another_by _ _ _ _ _ _ _ (rw c.in_default.is at c.in_ok-mark.ensures.read) c.in_ok-name.ensures.read (sym (rw c.deref.ensures.value at c.has_name.ensures) ∙ c.if-has_name.false)
    (rw (c.in_ok-push.ensures.items, c.in_ok-name-2.ensures) at c.tail_of.ensures)
