-- What went out, one step after the other.
use Rattle.std.proofs.Common.{◌≡◌, ℕ, ◌+◌, ◌==◌, if◌then◌else◌, List, [], ◌∷◌, ◌++◌, length, refl, sym, ◌∙◌, ap, append_assoc}
use Rattle.std.proofs.lemmas.List.{append-nil}
use Rattle.sm_site.specs.declared.event.Event.{Event}
use Rattle.sm_site.specs.declared.event.Event.TheVariants.{Opened, Piece, Closed, Ended}
use Rattle.sm_site.specs.declared.step.Step.{Step}
use Rattle.sm_site.specs.declared.step.Step.TheVariants.{Sized, Read, Wrote, Synced, Took, Sent, Shut, Crashed}
use Rattle.sm_site.specs.Event.{deal_of}
use Rattle.sm_site.specs.Meanings.{Item, sent_by, sent_on}
use Rattle.sm_site.specs.Sending.{sent_after}
use Rattle.sm_site.specs.Past.{is_crash, item_of, items_from}
use Rattle.sm_site.proofs.Steps.{items_push}

sent_append : (conn : ℕ) (xs ys : List Item) → sent_on conn (xs ++ ys) ≡ sent_on conn xs ++ sent_on conn ys
sent_append conn [] ys = refl
sent_append conn (x ∷ xs) ys = ap (λ (l : List ℕ). sent_by conn x.deal ++ l) (sent_append conn xs ys) ∙ sym (append_assoc (sent_by conn x.deal) (sent_on conn xs) (sent_on conn ys))

event_sends : (conn m : ℕ) (event : Event) → sent_on conn ((record { moment = m; deal = deal_of event }) ∷ []) ≡ []
event_sends conn m (Opened n) = refl
event_sends conn m (Piece n piece) = refl
event_sends conn m (Closed n) = refl
event_sends conn m Ended = refl

nothing : (conn : ℕ) (items more : List Item) → sent_on conn more ≡ [] → sent_on conn (items ++ more) ≡ sent_on conn items
nothing conn items more none = sent_append conn items more ∙ ap (λ (l : List ℕ). sent_on conn items ++ l) none ∙ append-nil (sent_on conn items)

pub sent_step : (conn m : ℕ) (items : List Item) (step : Step) → sent_on conn (if is_crash step then [] else items ++ item_of m step) ≡ sent_after conn (sent_on conn items) step
sent_step conn m items (Sized file failed) = nothing conn items [] refl
sent_step conn m items (Read file at n failed) = nothing conn items [] refl
sent_step conn m items (Wrote file at bytes failed reached) = nothing conn items [] refl
sent_step conn m items (Synced file failed) = nothing conn items [] refl
sent_step conn m items (Took event) = nothing conn items _ (event_sends conn m event)
sent_step conn m items (Sent n part failed) =
    sent_append conn items (item_of m (Sent n part failed)) ∙ ap (λ (l : List ℕ). sent_on conn items ++ l) (append-nil (if n == conn then part.items else []))
sent_step conn m items (Shut n) = nothing conn items _ refl
sent_step conn m items (Crashed choice) = refl

pub sent_push : (conn : ℕ) (steps : List Step) (step : Step) → sent_on conn (items_from 0 (steps ++ step ∷ [])) ≡ sent_after conn (sent_on conn (items_from 0 steps)) step
sent_push conn steps step = ap (λ (l : List Item). sent_on conn l) (items_push 0 steps step) ∙ sent_step conn (0 + length steps + 1) (items_from 0 steps) step
