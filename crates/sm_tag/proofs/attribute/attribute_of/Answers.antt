use Rattle.std.proofs.lemmas.Result.{err_from_is_err_and}
use Rattle.sm_tag.specs.TagParts.{opened}
use Rattle.sm_tag.proofs.AttributeLemmas.{unopened_fails, opened_fails}
use Rattle.sm_tag.proofs.attribute.attribute_of.Goals as goal

pub returns-in_err-name-clause-read : goal.returns-in_err-name-clause-read
returns-in_err-name-clause-read c =
    let p = err_from_is_err_and c.from_residual.result c.from_residual.ensures.1 in
    rw (p.1, p.2) (unopened_fails _ _ c.in_err-name.ensures.read)

pub returns-in_err-value-clause-read : goal.returns-in_err-value-clause-read
returns-in_err-value-clause-read c =
    let p = err_from_is_err_and c.from_residual-in_err-value.result c.from_residual-in_err-value.ensures.1 in
    rw (p.1, p.2) (opened_fails _ _ _ _ _ c.in_ok-name.ensures.read c.in_err-value.ensures.read)

pub returns-clause-read : goal.returns-clause-read
returns-clause-read c =
    rw c.from_vec.ensures (opened c.in_ok-name.ensures.read c.in_ok-value.ensures.read)
