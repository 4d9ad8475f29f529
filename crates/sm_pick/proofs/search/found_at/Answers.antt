use Rattle.std.proofs.Common.{Option, sym, subst, ◌∙◌}
use Rattle.sm_pick.specs.declared.seek.Hit.{Hit}
use Rattle.sm_pick.specs.Search.{Hits}
use Rattle.sm_pick.proofs.Searching.{hit_found, hit_missed}
use Rattle.sm_pick.proofs.search.found_at.Goals as goal

pub returns-in_err-fragment : goal.returns-in_err-fragment
returns-in_err-fragment c =
    λ first track time h.
    absurd (hit_missed first track time c.args.items c.in_ok-hit.hit (λ d. sym c.in_err-fragment.was ∙ c.fragment_at.ensures d) (subst (λ (o : Option Hit). Hits first track time c.args.items o) c.in_ok-hit.was h))

pub returns : goal.returns
returns c =
    λ first track time h.
    hit_found first track time c.args.items c.in_ok-hit.hit c.in_ok-fragment.fragment (λ d. sym c.in_ok-fragment.was ∙ c.fragment_at.ensures d) (subst (λ (o : Option Hit). Hits first track time c.args.items o) c.in_ok-hit.was h)
