-- An input has one header.
use Rattle.std.proofs.Common.{◌≡◌, ◌⊎◌, inl, inr, ⊎_elim, ◌<◌, ℕ, List, [], ◌∷◌, ◌++◌, length, Option, Some, None, false, refl, sym, ap, ◌∙◌, arith}
use Rattle.std.proofs.lemmas.List.{append-nil}
use Rattle.sm_model.specs.declared.track.Track.{Track}
use Rattle.sm_push.specs.Body.{body}
use Rattle.sm_push.specs.Header.{id_for}
use Rattle.sm_export.specs.Heads.{header_given, IsHead}

-- of two fronts of one text one is a front of the other
fronts : (f g r s : List ℕ) → f ++ r ≡ g ++ s → ((q : List ℕ) × (g ≡ f ++ q)) ⊎ ((q : List ℕ) × (f ≡ g ++ q))
fronts [] g r s e = inl (g, refl)
fronts (x ∷ f) [] r s e = inr (x ∷ f, refl)
fronts (x ∷ f) (y ∷ g) r s e =
    let first : x ≡ y = cc in
    let rest : f ++ r ≡ g ++ s = cc in
    ⊎_elim (λ p. inl (p.0, ap (λ (l : List ℕ). y ∷ l) p.1 ∙ ap (λ (z : ℕ). z ∷ (f ++ p.0)) (sym first)))
    (λ p. inr (p.0, ap (λ (l : List ℕ). x ∷ l) p.1 ∙ ap (λ (z : ℕ). z ∷ (g ++ p.0)) first)) (fronts f g r s rest)

no_more : (front : List ℕ) (channel : List Track) (other q : List ℕ) → header_given (body false front).items ≡ Some channel
    → ((p q : List ℕ) → other ≡ p ++ q → 0 < length q → header_given (body false p).items ≡ None) → other ≡ front ++ q → other ≡ front
no_more front channel other [] gives shortest is = is ∙ append-nil front
no_more front channel other (x ∷ q) gives shortest is = absurd (let none = shortest front (x ∷ q) is (omega arith) in cc)

some_is : (x y : List Track) → Some x ≡ Some y → x ≡ y
some_is x y e = cc

pub one_head : (b front other : List ℕ) (channel tracks : List Track) (name : List ℕ) (bitrate : ℕ) (id number : Option ℕ) → IsHead b front channel name bitrate id → IsHead b other tracks name bitrate number
    → (front ≡ other) × (channel ≡ tracks) × (id ≡ number)
one_head b front other channel tracks name bitrate id number h k =
    let same : front ≡ other =
    ⊎_elim (λ p. sym (no_more front channel other p.0 h.gives k.shortest p.1)) (λ p. no_more other tracks front p.0 k.gives h.shortest p.1)
    (fronts front other h.rest k.rest (sym h.joined ∙ k.joined)) in
    (same, some_is channel tracks (sym h.gives ∙ (ap (λ (p : List ℕ). header_given (body false p).items) same ∙ k.gives)), h.id_is ∙ (ap (λ (p : List ℕ). id_for name bitrate (body false p).header) same ∙ sym k.id_is))
