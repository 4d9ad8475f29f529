-- What the laws of other crates give for the connections of a run.
use Rattle.std.proofs.Common.{◌≡◌, ℕ, List, [], ◌∷◌, ◌++◌, refl, sym, ◌∙◌, ap, subst, append_assoc, lit<}
use Rattle.std.proofs.lemmas.List.{append-nil}
use Rattle.sm_model.specs.declared.entry.Entry.{Entry}
use Rattle.sm_head.specs.Requests.{IsWaiting}
use Rattle.sm_head.proofs.HeadLaw.{none_empty}
use Rattle.sm_conn.specs.Parts.{in_head, waiting}
use Rattle.sm_wire.specs.declared.item.WireItem.{WireItem}
use Rattle.sm_wire.specs.Wire.{wire, IsWire}
use Rattle.sm_origin.specs.Shown.{IsReal, Claim, Holds}
use Rattle.sm_serve.proofs.Answering.{HeldIn, WireLaws}

-- ---- what bytes give

empty_front : (xs ys : List ℕ) → [] ≡ xs ++ 10 ∷ ys → ⊥
empty_front [] ys e = cc
empty_front (x ∷ xs) ys e = cc

empty_waits : IsWaiting []
empty_waits = record { none = none_empty; hopeful = λ h. empty_front h.front h.rest h.splits; short = lit< tt }

nothing_yet : IsWire [] []
unfolding wire
nothing_yet = ([], (in_head [], waiting (in_head []) (in_head []) [] [] [] refl empty_waits refl refl), refl)

-- a list that is its own front with others behind it has none behind it
none_behind : (xs ys : List WireItem) → xs ≡ xs ++ ys → ys ≡ []
none_behind [] ys e = sym e
none_behind (x ∷ xs) ys e = none_behind xs ys (let rest : xs ≡ xs ++ ys = cc in rest)

both_empty : (ys zs : List WireItem) → ys ++ zs ≡ [] → ys ≡ []
both_empty [] zs e = refl
both_empty (y ∷ ys) zs e = absurd (cc)

pub wire_laws : ((bytes more : List ℕ) (items all : List WireItem) → IsWire bytes items → IsWire (bytes ++ more) all → (rest : List WireItem) × (all ≡ items ++ rest)) → WireLaws
wire_laws front = record { none = nothing_yet; front = front; one = one }
  where
    again : (bytes : List ℕ) (given other : List WireItem) → IsWire bytes given → IsWire bytes other → (rest : List WireItem) × (other ≡ given ++ rest)
    again bytes given other here there = front bytes [] given other here (subst (λ (b : List ℕ). IsWire b other) (sym (append-nil bytes)) there)

    one : (bytes : List ℕ) (given other : List WireItem) → IsWire bytes given → IsWire bytes other → other ≡ given
    one bytes given other here there =
        let f = again bytes given other here there in
        let b = again bytes other given there here in
        f.1 ∙ ap (λ (ws : List WireItem). given ++ ws) (both_empty f.0 b.0 (none_behind given (f.0 ++ b.0) (b.1 ∙ ap (λ (ws : List WireItem). ws ++ b.0) f.1 ∙ append_assoc given f.0 b.0))) ∙ append-nil given

-- ---- longer logs

pub longer_logs : ((log more : List Entry) → IsReal (log ++ more) → IsReal log) → ((log more : List Entry) (claim : Claim) → Holds log claim → Holds (log ++ more) claim) → (log more : List Entry) (claim : Claim)
    → HeldIn log claim → HeldIn (log ++ more) claim
longer_logs front stays log more claim held sound = stays log more claim (held (front log more sound))
