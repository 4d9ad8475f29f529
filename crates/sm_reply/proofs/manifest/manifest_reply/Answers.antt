use Rattle.std.proofs.Common.{◌≡◌, ◌∙◌, ap, sym, subst, List, ℕ, IfOk, Option, option_map}
use Rattle.sm_catalog.specs.Content.{Content}
use Rattle.sm_head.specs.declared.reply.Content.TheVariants.{Xml}
use Rattle.sm_reply.specs.Replies.{ok, catalog_reply}
use Rattle.sm_reply.proofs.manifest.manifest_reply.Goals as goal

pub returns-in_ok-text-in-Some : goal.returns-in_ok-text-in-Some
returns-in_ok-text-in-Some c =
    subst (λ (o : Option Content). IfOk c.ok.result (λ reply. reply ≡ catalog_reply o)) (sym (ap (option_map (λ r. r.now)) c.in-Some.is))
    (subst (λ (l : List ℕ). IfOk c.ok.result (λ reply. reply ≡ ok Xml l)) (c.as_slice.ensures ∙ c.in_ok-text-in-Some.ensures) c.ok.ensures)
