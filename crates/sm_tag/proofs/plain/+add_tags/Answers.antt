use Rattle.std.proofs.Common.{[], ◌∷◌, sym, ◌∙◌}
use Rattle.sm_tag.specs.Tags.{ends}
use Rattle.sm_tag.proofs.PlainLemmas.{goes_on}
use Rattle.sm_tag.proofs.plain.+add_tags.Goals as goal

pub returns-then-last : goal.returns-then-last
returns-then-last t c =
    (c.in_ok-tag.tag ∷ [], ends _ c.in_ok-tag.ensures.ok (sym c.is_last-last.ensures ∙ c.if-last.true), c.in_ok-push.ensures.items)

pub returns-else-last : goal.returns-else-last
returns-else-last t c =
    goes_on _ _ _ _ _ _ _ c.in_ok-tag.ensures.ok (sym c.is_last-last.ensures ∙ c.if-last.false) c.in_ok-push.ensures.items c.add_tags.ensures
