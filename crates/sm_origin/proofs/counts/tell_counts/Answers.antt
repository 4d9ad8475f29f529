use Rattle.std.proofs.Common.{◌≡◌, ◌∙◌, ℕ, List, IfOk, subst}
use Rattle.sm_head.specs.declared.reply.Content.TheVariants.{Plain}
use Rattle.sm_reply.specs.Replies.{ok}
use Rattle.sm_origin.proofs.counts.tell_counts.Goals as goal

pub returns : goal.returns
returns c =
    subst (λ (l : List ℕ). IfOk c.ok.result (λ reply. reply ≡ ok Plain l)) (c.as_bytes.ensures.value ∙ c.in_ok-line.ensures.ok) c.ok.ensures
