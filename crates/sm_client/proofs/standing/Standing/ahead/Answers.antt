use Rattle.std.proofs.Common.{◌∙◌, ◌-◌, ap}
use Rattle.sm_client.proofs.Knows.{ahead-is}
use Rattle.sm_client.proofs.standing.Standing.ahead.Goals as goal

pub returns : goal.returns
returns c p h known = ahead-is c.saturating_sub.result h.known known (c.saturating_sub.ensures ∙ ap (λ n. n - 1) c.len.ensures.len)
