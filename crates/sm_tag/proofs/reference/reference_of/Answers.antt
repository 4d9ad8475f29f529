use Rattle.std.proofs.Common.{refl, Err}
use Rattle.sm_tag.specs.TagParts.{reference_at, wrong}
use Rattle.sm_tag.proofs.reference.reference_of.Goals as goal

pub returns-clause-read : goal.returns-clause-read
unfolding reference_at
returns-clause-read c =
    c.number_or.ensures.read _ (c.named_or-found-5.ensures.read _ (c.named_or-found-4.ensures.read _ (c.named_or-found-3.ensures.read _ (c.named_or-found-2.ensures.read _ (c.named_or-found.ensures.read (Err wrong) refl)))))
