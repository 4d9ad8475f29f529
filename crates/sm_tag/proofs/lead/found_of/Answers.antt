use Rattle.std.proofs.Common.{sym, arith}
use Rattle.sm_tag.specs.Tags.{bare, lost, stray, marked, skipped}
use Rattle.sm_tag.proofs.MarkupLemmas.{moves_on_further}
use Rattle.sm_tag.proofs.lead.found_of.Goals as goal

pub returns-in_default-clause-found : goal.returns-in_default-clause-found
returns-in_default-clause-found c =
    c.skips.invariant.skips _ (bare (sym c.lead_of-lead.ensures.read) c.in_default.not-Tag)

pub returns-in_default-clause-moves_on : goal.returns-in_default-clause-moves_on
returns-in_default-clause-moves_on c =
    moves_on_further c.lead_of-lead.result.0 _ _ _ c.lead_of-lead.ensures.moves_on c.skips.invariant.shorter

pub returns-in-Err-Short-clause-found : goal.returns-in-Err-Short-clause-found
returns-in-Err-Short-clause-found c =
    let t = rw c.in-Tag.is at (sym c.lead_of-lead.ensures.read) in
    c.skips.invariant.skips _ (lost t (rw c.in-Err-Short.field-0-is at c.in-Err-Short.ensures.read))

pub returns-in-Err-Wrong-clause-found : goal.returns-in-Err-Wrong-clause-found
returns-in-Err-Wrong-clause-found c =
    let t = rw c.in-Tag.is at (sym c.lead_of-lead.ensures.read) in
    c.skips.invariant.skips _ (stray t (rw c.in-Err-Wrong.field-0-is at c.in-Err-Wrong.ensures.read))

pub skips-preserved : goal.skips-preserved
skips-preserved c = record {
  skips = λ f h.
      let t = rw c.in-Tag.is at (sym c.lead_of-lead.ensures.read) in
      c.skips.invariant.skips f (skipped t (rw c.in-Skipped.is at c.in-Ok.ensures.read) h);
  shorter = omega (arith, c.lead_of-lead.ensures.behind, c.in-Ok.ensures.shorter);
}

pub returns-in_default-markup-clause-found : goal.returns-in_default-markup-clause-found
returns-in_default-markup-clause-found c =
    let t = rw c.in-Tag.is at (sym c.lead_of-lead.ensures.read) in
    c.skips.invariant.skips _ (marked t c.in-Ok.ensures.read c.in_default-markup.not-Skipped)

pub returns-in_default-markup-clause-moves_on : goal.returns-in_default-markup-clause-moves_on
returns-in_default-markup-clause-moves_on c =
    let lt = rw c.in-Tag.is at c.lead_of-lead.ensures.moves_on in
    omega (arith, lt, c.in-Ok.ensures.shorter)
