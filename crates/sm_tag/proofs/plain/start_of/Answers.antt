use Rattle.std.proofs.lemmas.Result.{err_from_is_err_and}
use Rattle.sm_tag.specs.TagMarkup.{named}
use Rattle.sm_tag.proofs.MarkupLemmas.{unnamed_fails, named_fails}
use Rattle.sm_tag.proofs.plain.start_of.Goals as goal

pub returns-in_err-name : goal.returns-in_err-name
returns-in_err-name c =
    let p = err_from_is_err_and c.from_residual.result c.from_residual.ensures.1 in
    rw (p.1, p.2) (unnamed_fails _ _ c.in_err-name.ensures.read)

pub returns-in_err-attributes : goal.returns-in_err-attributes
returns-in_err-attributes c =
    let p = err_from_is_err_and c.from_residual-in_err-attributes.result c.from_residual-in_err-attributes.ensures.1 in
    rw (p.1, p.2) (named_fails _ _ _ _ c.in_ok-name.ensures.read (rw c.new.ensures.items at c.in_err-attributes.ensures))

pub returns : goal.returns
returns c = rw (c.in_ok-name-2.ensures, c.from_vec-attributes.ensures) (named c.in_ok-name.ensures.read (rw c.new.ensures.items at c.in_ok-attributes.ensures))
