-- Whether the events are over.
use Rattle.std.proofs.Common.{◌≡◌, ◌↔◌, ℕ, List, [], ◌∷◌, ◌++◌, Option, Some, refl, sym, ◌∙◌, ap, subst, append_assoc}
use Rattle.std.proofs.lemmas.List.{append_cancel_left}
use Rattle.sm_site.specs.Meanings.{View, Deal, Item, Seen}
use Rattle.sm_site.specs.Meanings.Deal.{Over}
use Rattle.sm_site.specs.Clauses.{Adds, AreOne}
use Rattle.sm_site.specs.Event.{deal_of}
use Rattle.sm_site.specs.declared.event.Event.{Event}
use Rattle.sm_site.specs.declared.event.Event.TheVariants.{Opened, Piece, Closed, Ended}
use Rattle.sm_serve.specs.declared.outcome.Turn.{Turn as Turned}
use Rattle.sm_serve.specs.declared.outcome.Turn.TheVariants as turned
use Rattle.sm_serve.specs.declared.state.State.{State}
use Rattle.sm_serve.specs.Connections.{deals_in}
use Rattle.sm_serve.specs.Run.{at}
use Rattle.sm_serve.specs.Standing.{History}
use Rattle.sm_serve.specs.Serving.{Serves, TurnsBy, NoneIsOver, HasTaken}
use Rattle.sm_serve.proofs.Transcripts.{told_adds, deals_push}

is_ended : (event : Event) → deal_of event ≡ Over → event ≡ Ended
is_ended (Opened n) is = absurd (cc)
is_ended (Piece n piece) is = absurd (cc)
is_ended (Closed n) is = absurd (cc)
is_ended Ended is = refl

pub has_taken : (r : Turned) (event : Event) → (r ≡ turned.LinkFault → ⊥) → (r ≡ turned.NoMemory → ⊥) → (r ≡ turned.Ended ↔ event ≡ Ended) → HasTaken r (deal_of event ∷ [])
has_taken turned.Went event one two ends = (deal_of event, refl, λ over. absurd (let bad : turned.Went ≡ turned.Ended = ends.1 (is_ended event over) in cc))
has_taken turned.Ended event one two ends = ap (λ (e : Event). deal_of e ∷ []) (ends.0 refl)
has_taken turned.LinkFault event one two ends = absurd (one refl)
has_taken turned.NoMemory event one two ends = absurd (two refl)

taken_over : (r : Turned) (deals : List Deal) → HasTaken r deals → deals ≡ Over ∷ [] → r ≡ turned.Ended
taken_over turned.Went deals (deal, is, other) over = absurd (other (let both : deal ∷ [] ≡ Over ∷ [] = sym is ∙ over in cc))
taken_over turned.Ended deals took over = refl
taken_over turned.LinkFault deals none over = absurd (let both : [] ≡ Over ∷ [] = sym none ∙ over in cc)
taken_over turned.NoMemory deals none over = absurd (let both : [] ≡ Over ∷ [] = sym none ∙ over in cc)

pub none_both : (xs ys : List Deal) → NoneIsOver xs → NoneIsOver ys → NoneIsOver (xs ++ ys)
none_both [] ys one two = two
none_both (x ∷ xs) ys one two = (one.0, none_both xs ys one.1 two)

pub none_went : (deals : List Deal) → HasTaken turned.Went deals → NoneIsOver deals
none_went deals (deal, is, other) = subst (λ (ds : List Deal). NoneIsOver ds) (sym is) (other, tt)

pub none_of : (deals : List Deal) → deals ≡ [] → NoneIsOver deals
none_of deals is = subst (λ (ds : List Deal). NoneIsOver ds) (sym is) tt

module _ {D : Type 0} (site link : Seen D) (one : AreOne site link) where
  -- where the one entry that was added says that nothing more comes, the turn took that event
  pub over_is_told : (r : Turned) (h : History) (n : ℕ) (was : Option (List Deal)) (old new : State) (d e : D) → Serves site h old d → (t : TurnsBy site h n was new e) → HasTaken r t.deals
      → Adds Over (link.view d) (link.view e) → r ≡ turned.Ended
  over_is_told r h n was old new d e serves t took adds =
      let k = t.turns.later in
      let here : Adds Over (site.view d) (site.view e) = subst (λ (v : View). Adds Over v (site.view e)) (sym (one.view d)) (subst (λ (v : View). Adds Over (link.view d) v) (sym (one.view e)) adds) in
      let told = told_adds (site.view d) (site.view e) (h.base ++ h.items) Over serves.keeps.told here in
      let entry = at told.0 Over in
      let both : Some ((h.base ++ h.items) ++ entry) ≡ Some (k.base ++ k.items) = sym told.3 ∙ t.turns.serves.keeps.told in
      let all : (h.base ++ h.items) ++ entry ≡ k.base ++ k.items = cc in
      let same : h.base ++ (h.items ++ entry) ≡ h.base ++ k.items = sym (append_assoc h.base h.items entry) ∙ all ∙ ap (λ (l : List Item). l ++ k.items) t.turns.since.base in
      let items_are : h.items ++ entry ≡ k.items = append_cancel_left h.base (h.items ++ entry) k.items same in
      let taken : deals_in h.items ++ Over ∷ [] ≡ deals_in h.items ++ t.deals = sym (deals_push h.items (record { moment = told.0; deal = Over })) ∙ ap deals_in items_are ∙ t.turns.taken in
      taken_over r t.deals took (sym (append_cancel_left (deals_in h.items) (Over ∷ []) t.deals taken))
