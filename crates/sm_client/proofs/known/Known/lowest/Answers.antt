use Rattle.std.proofs.Common.{ℕ, List, ◌∙◌, ◌-◌, length, ap, slice_get}
use Rattle.sm_client.proofs.Rows.{lowest_is}
use Rattle.sm_client.proofs.known.Known.lowest.Goals as goal

pub returns-clause-some : goal.returns-clause-some
returns-clause-some c =
    rw (← c.self.view_is)
    (lowest_is c.self.inside.starts.items c.copied.result c.self.invariant
    (c.copied.ensures ∙ (c.last.ensures.value ∙ ap (λ (l : List ℕ). slice_get l (length l - 1)) c.deref.ensures.value)))
