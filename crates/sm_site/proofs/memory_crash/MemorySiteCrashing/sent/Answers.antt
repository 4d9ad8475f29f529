use Rattle.std.proofs.Common.{rules, arith, ◌≡◌, ◌<◌, ◌+◌, ◌-◌, ◌++◌, ◌∷◌, [], ℕ, List, length, take, drop, sym, ap, ◌∙◌, append_assoc}
use Rattle.std.proofs.lemmas.List.{take_more}
use Rattle.sm_site.specs.declared.step.Step.{Step}
use Rattle.sm_site.specs.Meanings.{sent_on}
use Rattle.sm_site.specs.Past.{items_from}
use Rattle.sm_site.specs.Sending.{sent_after}
use Rattle.sm_site.proofs.Sends.{sent_push}
use Rattle.sm_site.proofs.memory_crash.MemorySiteCrashing.sent.Goals as goal

pub loop-step-preserved : goal.loop-step-preserved
loop-step-preserved c =
    let all = c.deref-2.result.now in
    let begun = c.begun_at-begun.result in
    let steps = take (length all - begun) (drop begun all) in
    let i = c.loop-step.step-index in
    let step = c.step-item.result in
    let conn = c.args.conn in
    let front = take begun c.args.self.now.past.items in
    let within : i < length steps = search (rules, arith) in
    let next : take (i + 1) steps ≡ take i steps ++ step ∷ [] = take_more steps i step within ∙ ap (λ (s : Step). take i steps ++ s ∷ []) (sym c.step-item.is) in
    let behind : front ++ take (i + 1) steps ≡ (front ++ take i steps) ++ step ∷ [] = ap (λ (l : List Step). front ++ l) next ∙ sym (append_assoc front (take i steps) (step ∷ [])) in
    record {
      items = c.loop-step.invariant.items;
      sent = c.in_ok-add_sent.ensures ∙ ap (λ (l : List ℕ). sent_after conn l step) c.loop-step.invariant.sent ∙ sym (sent_push conn (front ++ take i steps) step)
          ∙ sym (ap (λ (l : List Step). sent_on conn (items_from 0 l)) behind);
    }
