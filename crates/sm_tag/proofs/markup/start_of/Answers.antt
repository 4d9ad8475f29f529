use Rattle.std.proofs.lemmas.Result.{err_from_is_err_and}
use Rattle.sm_tag.specs.TagMarkup.{named}
use Rattle.sm_tag.proofs.MarkupLemmas.{unnamed_fails, named_fails}
use Rattle.sm_tag.proofs.markup.start_of.Goals as goal

pub returns-in_err-name-clause-read : goal.returns-in_err-name-clause-read
returns-in_err-name-clause-read c =
    let p = err_from_is_err_and c.from_residual.result c.from_residual.ensures.1 in
    rw (p.1, p.2) (unnamed_fails _ _ c.in_err-name.ensures.read)

pub returns-in_err-attributes-clause-read : goal.returns-in_err-attributes-clause-read
returns-in_err-attributes-clause-read c =
    let p = err_from_is_err_and c.from_residual-in_err-attributes.result c.from_residual-in_err-attributes.ensures.1 in
    rw (p.1, p.2) (named_fails _ _ _ _ c.in_ok-name.ensures.read c.in_err-attributes.ensures.read)

pub returns-clause-read : goal.returns-clause-read
returns-clause-read c =
    rw (c.in_ok-name-2.ensures, c.from_vec-attributes.ensures) (named c.in_ok-name.ensures.read c.in_ok-attributes.ensures.read)
