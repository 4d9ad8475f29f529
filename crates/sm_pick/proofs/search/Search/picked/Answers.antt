use Rattle.std.proofs.Common.{◌≡◌, true, None, sym, ◌∙◌}
use Rattle.sm_push.specs.Body.{body_end}
use Rattle.sm_pick.proofs.Looking.{valid_at_end}
use Rattle.sm_pick.proofs.search.Search.picked.Goals as goal

pub put_fragment-requires-clause-valid : goal.put_fragment-requires-clause-valid
put_fragment-requires-clause-valid c =
    let whole : None ≡ body_end true c.requires.0 = sym c.in_default.is ∙ c.refusal_at_end.ensures.refusal c.requires.0 c.requires.1 in
    valid_at_end c.args.self.now c.requires.0 (c.items_are_valid.ensures true c.requires.0) c.requires.1 whole c.in-Some-found.place c.in-Some-found.fragment
    (sym c.refusal_at_end.ensures.asked.2 ∙ c.in-Some-found.is)
