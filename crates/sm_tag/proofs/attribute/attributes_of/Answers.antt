use Rattle.std.proofs.Common.{arith}
use Rattle.std.proofs.lemmas.Result.{err_from_is_err_and}
use Rattle.sm_tag.specs.TagParts.{ended, twice, another}
use Rattle.sm_tag.proofs.AttributeLemmas.{follows_unmarked, follows_broken}
use Rattle.sm_tag.proofs.NameSets.{seen_before, seen_first, knows_more}
use Rattle.sm_tag.proofs.attribute.attributes_of.Goals as goal

pub returns-in_err-mark-clause-read : goal.returns-in_err-mark-clause-read
returns-in_err-mark-clause-read c =
    let p = err_from_is_err_and c.from_residual.result c.from_residual.ensures.1 in
    rw (p.1, p.2) (follows_unmarked _ _ _ _ c.attributes.invariant.follows c.in_err-mark.ensures.read)

pub returns-in-Some-clause-read : goal.returns-in-Some-clause-read
returns-in-Some-clause-read c = c.attributes.invariant.follows _ (ended (rw c.in-Some.is at c.in_ok-mark.ensures.read))

pub returns-in_err-name-clause-read : goal.returns-in_err-name-clause-read
returns-in_err-name-clause-read c =
    let p = err_from_is_err_and c.from_residual-in_err-name.result c.from_residual-in_err-name.ensures.1 in
    rw (p.1, p.2) (follows_broken _ _ _ _ _ c.attributes.invariant.follows (rw c.in_default.is at c.in_ok-mark.ensures.read) c.in_err-name.ensures.read)

pub returns-then-not-fresh-clause-read : goal.returns-then-not-fresh-clause-read
returns-then-not-fresh-clause-read c =
    let known = seen_before c.attributes.names c.in_ok-name.name c.attributes.attributes.items c.in_ok-fresh.fresh c.attributes.invariant.known c.in_ok-fresh.ensures.added c.if-not-fresh.true in
    c.attributes.invariant.follows _ (twice (rw c.in_default.is at c.in_ok-mark.ensures.read) c.in_ok-name.ensures.read known)

pub attributes-preserved : goal.attributes-preserved
attributes-preserved c = record {
  follows = λ r h.
      let first = seen_first c.attributes.names c.in_ok-name.name c.attributes.attributes.items c.in_ok-fresh.fresh c.attributes.invariant.known c.in_ok-fresh.ensures.added c.if-not-fresh.false in
      c.attributes.invariant.follows r (another (rw c.in_default.is at c.in_ok-mark.ensures.read) c.in_ok-name.ensures.read first (rw (c.in_ok-push.ensures.items, c.in_ok-name-2.ensures) at h));
  known = rw c.in_ok-push.ensures.items (knows_more _ _ _ _ c.in_ok-name.name c.attributes.invariant.known c.in_ok-fresh.ensures.keys c.in_ok-name-2.ensures);
  shorter = omega (arith, c.in_ok-mark.ensures.shorter, c.in_ok-name.ensures.shorter);
}
