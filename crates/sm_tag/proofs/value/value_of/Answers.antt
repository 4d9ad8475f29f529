use Rattle.std.proofs.Common.{arith}
use Rattle.std.proofs.lemmas.Result.{err_from_is_err_and}
use Rattle.sm_tag.proofs.Pieces.{completes_on, completes_closed, completes_fails}
use Rattle.sm_tag.proofs.value.value_of.Goals as goal

pub returns-in_err-goes_on-clause-read : goal.returns-in_err-goes_on-clause-read
returns-in_err-goes_on-clause-read c =
    let p = err_from_is_err_and c.from_residual.result c.from_residual.ensures.1 in
    rw (p.1, p.2) (completes_fails _ _ _ _ _ c.pieces.invariant.completes c.in_err-goes_on.ensures.read)

pub returns-then-not-goes_on-clause-read : goal.returns-then-not-goes_on-clause-read
returns-then-not-goes_on-clause-read c =
    completes_closed _ _ _ _ _ _ c.pieces.invariant.completes (rw c.if-not-goes_on.true at c.in_ok-goes_on.ensures.read)

pub pieces-preserved : goal.pieces-preserved
pieces-preserved c = record {
  completes = completes_on _ _ _ _ _ _ c.pieces.invariant.completes (rw c.if-not-goes_on.false at c.in_ok-goes_on.ensures.read);
  shorter = omega (arith, c.in_ok-goes_on.ensures.shorter);
}
