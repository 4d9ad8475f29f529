-- What parts give, one after the other.
use Rattle.std.proofs.Common.{◌≡◌, ℕ, ◌<◌, Bool, true, false, List, [], ◌∷◌, ◌++◌, length, get_or, refl, ap, ◌∙◌, sym, arith, Some}
use Rattle.std.specs.Prelude.{map}
use Rattle.std.specs.List.{remove}
use Rattle.std.proofs.lemmas.List.{append-nil}
use Rattle.sm_model.specs.declared.cause.Refusal.{Refusal}
use Rattle.sm_model.specs.declared.header.HeaderTrack.{HeaderTrack}
use Rattle.sm_model.specs.declared.item.Item.{Item}
use Rattle.sm_model.specs.declared.item.Item.TheVariants as items
use Rattle.sm_model.specs.Items.{Given, item_of}
use Rattle.sm_model.specs.Items as given
use Rattle.sm_push.specs.Body.{Outcome, body, body_end, cut_off, walk, led_by, refused}
use Rattle.sm_wire.specs.declared.item.WireItem.{WireItem}
use Rattle.sm_wire.specs.declared.item.WireItem.TheVariants.{Header, Frag}
use Rattle.sm_wire.specs.Wire.{shown}

-- the first is taken out
pub first_out : {A : Type 0} (xs : List A) (x : A) (ys : List A) → 0 < length xs → x ≡ get_or xs 0 x → ys ≡ remove xs 0 → xs ≡ x ∷ ys
first_out [] x ys some is rest = absurd (omega arith)
first_out (z ∷ zs) x ys some is rest = cc

abbrev pub shown_item : Item → WireItem
shown_item (items.Header channel) = Header channel
shown_item (items.Frag fragment) = Frag fragment

pub map_shown : (gs : List Given) → map shown_item (map item_of gs) ≡ map shown gs
map_shown [] = refl
map_shown (given.Header channel ∷ gs) = ap (λ ws. Header channel ∷ ws) (map_shown gs)
map_shown (given.Frag id fragment ∷ gs) = ap (λ ws. Frag fragment ∷ ws) (map_shown gs)

-- no bytes give nothing
pub nothing_before : (body false []).items ≡ []
unfolding walk
nothing_before = refl

-- a refusal stands at the end too
pub refused_ends : (bytes : List ℕ) (r : Refusal) → (body false bytes).refusal ≡ Some r → body_end false bytes ≡ Some r
refused_ends bytes r is = ap (cut_off (body false bytes).inside (length bytes)) is ∙ stays (body false bytes).inside
  where
    stays : (inside : Bool) → cut_off inside (length bytes) (Some r) ≡ Some r
    stays true = refl
    stays false = refl

-- what a push gave is what its bytes give
pub items_are : (bytes : List ℕ) (gs : List Given) → (body false bytes).items ≡ (body false []).items ++ gs → gs ≡ (body false bytes).items
items_are bytes gs is = sym (is ∙ ap (λ (before : List Given). before ++ gs) nothing_before)

pub refused_items : (bytes : List ℕ) (gs : List Given) (header : List HeaderTrack) (r : Refusal) → body false bytes ≡ led_by ((body false []).items ++ gs) (refused header r)
    → gs ≡ (body false bytes).items
refused_items bytes gs header r is = items_are bytes gs (ap (λ (o : Outcome). o.items) is ∙ append-nil ((body false []).items ++ gs))

pub refused_is : (bytes : List ℕ) (gs : List Given) (header : List HeaderTrack) (r : Refusal) → body false bytes ≡ led_by gs (refused header r)
    → (body false bytes).refusal ≡ Some r
refused_is bytes gs header r is = ap (λ (o : Outcome). o.refusal) is
