use Rattle.std.proofs.Common.{◌≡◌, ◌+◌, ◌++◌, ◌∷◌, [], List, take, sym, ap, ◌∙◌, subst}
use Rattle.std.proofs.lemmas.List.{take_more}
use Rattle.sm_site.specs.declared.event.Event.{Event}
use Rattle.sm_site.specs.NextNumber.{IsNumber}
use Rattle.sm_site.specs.Scripts.{deals_of, numbers_after}
use Rattle.sm_site.proofs.Given.{numbers_after_push}
use Rattle.sm_site.proofs.next_number.above_script.Goals as goal

pub loop-event-preserved : goal.loop-event-preserved
loop-event-preserved c =
    let events = c.args.script.now in
    let i = c.loop-event.event-index in
    let event = c.event-item.result in
    let next : take (i + 1) events ≡ take i events ++ event ∷ [] =
    take_more events i event c.loop-event-test.true ∙ ap (λ (e : Event). take i events ++ e ∷ []) (sym c.event-item.is)
    in
    λ k is. subst (IsNumber c.above-next.result)
    (sym (ap (λ (l : List Event). numbers_after k (deals_of l)) next ∙ numbers_after_push k (take i events) event))
    (c.above-next.ensures _ (c.loop-event.invariant k is))
