-- What stands at a place of a log.
use Rattle.std.proofs.Common.{arith, ◌≡◌, ◌<◌, ◌+◌, ℕ, zero, suc, true, false, List, [], ◌∷◌, ◌++◌, length, Option, Some, slice_get, refl, ap, sym, subst}
use Rattle.sm_model.specs.declared.track.Track.{Track}
use Rattle.sm_model.specs.declared.address.Address.{Address}
use Rattle.sm_model.specs.declared.fragment.Fragment.{Fragment}
use Rattle.sm_model.specs.declared.entry.Entry.{Entry}
use Rattle.sm_model.specs.declared.entry.Entry.TheVariants.{Declare, Keep}
use Rattle.sm_model.specs.Entries.{address_of}
use Rattle.sm_log.specs.declared.verdict.Judged.TheVariants as judged
use Rattle.sm_log.specs.Adds.{Add, is_at, place_of}
use Rattle.sm_log.specs.Logs.{channel_of, adds_from, adds_of, kept_at, IsSound}

-- a log that keeps something begins with its channel
pub has_channel : (log : List Entry) (a : Address) (place : ℕ) → IsSound log → place_of a (adds_of log) ≡ Some place → (channel : List Track) × (channel_of log ≡ Some channel)
has_channel [] a place sound e = absurd cc
has_channel (Declare ts ∷ more) a place sound e = (ts, refl)
has_channel (Keep f ∷ more) a place sound e = absurd (never (sound.each [] more (Keep f) refl).1)
  where
    never : judged.NotDeclared ≡ judged.New → ⊥
    never same = cc

-- ---- a place is inside the log

within : (a : Address) (n : ℕ) (log : List Entry) (place : ℕ) → place_of a (adds_from n log) ≡ Some place → place < n + length log
within a n [] place e = absurd cc
within a n (Declare ts ∷ more) place e = omega (arith, within a (suc n) more place e)
within a n (Keep f ∷ more) place e =
    let add : Add = record { address = address_of f; duration = f.duration; place = n } in
    (elim (is_at a add) as (λ y. is_at a add ≡ y → place < n + suc (length more)) [
      | true ↦ λ t. let same : n ≡ place = some_is n place (rw t at e) in omega (arith, same)
      | false ↦ λ t. omega (arith, within a (suc n) more place (rw t at e))
    ]) refl
  where
    some_is : (x y : ℕ) → (let found : ℕ → Option ℕ = λ z. Some z in found x ≡ found y) → x ≡ y
    some_is x y e = cc

pub place_within : (a : Address) (log : List Entry) (place : ℕ) → place_of a (adds_of log) ≡ Some place → place < length log
place_within a log place e = omega (arith, within a 0 log place e)

-- ---- what is at a place is kept at its address

-- the entries before a place, and those behind it
cut : (log : List Entry) (place : ℕ) (x : Entry) → slice_get log place ≡ Some x → (front : List Entry) × (back : List Entry) × (log ≡ front ++ x ∷ back) × (length front ≡ place)
cut [] place x e = absurd cc
cut (y ∷ more) zero x e = ([], more, cc, refl)
cut (y ∷ more) (suc place) x e =
    let c = cut more place x e in
    (y ∷ c.0, c.1, ap (λ (l : List Entry). y ∷ l) c.2, ap suc c.3)

pub kept_there : ((front back : List Entry) (f : Fragment) → IsSound (front ++ Keep f ∷ back) → kept_at (front ++ Keep f ∷ back) (address_of f) ≡ Some (length front, f))
    → (log : List Entry) (a : Address) (place : ℕ) (f : Fragment) → IsSound log → slice_get log place ≡ Some (Keep f) → address_of f ≡ a → kept_at log a ≡ Some (place, f)
kept_there one log a place f sound there of =
    let c = cut log place (Keep f) there in
    let whole : kept_at (c.0 ++ Keep f ∷ c.1) (address_of f) ≡ Some (length c.0, f) = one c.0 c.1 f (subst IsSound c.2 sound) in
    subst (λ (x : Address). kept_at log x ≡ Some (place, f)) of
    (subst (λ (l : List Entry). kept_at l (address_of f) ≡ Some (place, f)) (sym c.2)
    (subst (λ (n : ℕ). kept_at (c.0 ++ Keep f ∷ c.1) (address_of f) ≡ Some (n, f)) c.3 whole))
