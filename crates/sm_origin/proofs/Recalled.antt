-- What is read back.
use Rattle.std.proofs.Common.{◌≡◌, ◌⊎◌, inl, inr, ◌↔◌, ℕ, List, Option, None, Some, refl, ap, sym, subst, ◌∙◌}
use Rattle.sm_model.specs.declared.address.Address.{Address}
use Rattle.sm_model.specs.declared.entry.Entry.{Entry}
use Rattle.sm_model.specs.declared.fragment.Fragment.{Fragment}
use Rattle.sm_model.specs.declared.act.Act.TheVariants.{Fragment as Ask}
use Rattle.sm_log.specs.Adds.{place_of}
use Rattle.sm_log.specs.Logs.{adds_of, kept_at}
use Rattle.sm_archive.specs.declared.fetch.Fetched.{Fetched}
use Rattle.sm_archive.specs.declared.fetch.Fetched.TheVariants as fetched
use Rattle.sm_cache.specs.declared.cache.Kept.{Kept}
use Rattle.sm_origin.specs.Answers.{reply_to_fetched}
use Rattle.sm_origin.specs.Machine.{Machine, SameLog, answered, unread, Step, row, wants}
use Rattle.sm_origin.specs.Acting.{IsHeld}

nothing_changed : (m : Machine) → SameLog m m
nothing_changed m = record { log = refl; doubt = refl }

-- it is one step
pub recall_step : (failed : Type 0) (m : Machine) (a : Address) (r : Fetched) → (r ≡ fetched.Damaged → ⊥)
    → (r ≡ fetched.DiskFault → failed × ((place : ℕ) × (f : Fragment) × (kept_at m.log a ≡ Some (place, f)))) → Step failed m (Ask a) m (reply_to_fetched m.log a r)
recall_step failed m a (fetched.Found place f) sound why = row (answered refl (nothing_changed m) refl)
recall_step failed m a fetched.Absent sound why = row (answered refl (nothing_changed m) refl)
recall_step failed m a fetched.DiskFault sound why =
    let w = why refl in
    row (unread a w.1.0 w.1.1 refl w.1.2 (nothing_changed m) w.0 refl)
recall_step failed m a fetched.Damaged sound why = absurd (sound refl)
recall_step failed m a fetched.NoMemory sound why = wants (nothing_changed m) refl

-- ---- out of the cache

abbrev Again : Kept → Fetched → Type 0
Again kept r = (r ≡ fetched.Found kept.place kept.fragment) ⊎ (r ≡ fetched.NoMemory)

pub again_undamaged : (kept : Kept) (r : Fetched) → Again kept r → r ≡ fetched.Damaged → ⊥
again_undamaged kept r (inl is) bad = let both : fetched.Found kept.place kept.fragment ≡ fetched.Damaged = sym is ∙ bad in cc
again_undamaged kept r (inr is) bad = let both : fetched.NoMemory ≡ fetched.Damaged = sym is ∙ bad in cc

pub again_unfailed : (kept : Kept) (r : Fetched) → Again kept r → r ≡ fetched.DiskFault → ⊥
again_unfailed kept r (inl is) bad = let both : fetched.Found kept.place kept.fragment ≡ fetched.DiskFault = sym is ∙ bad in cc
again_unfailed kept r (inr is) bad = let both : fetched.NoMemory ≡ fetched.DiskFault = sym is ∙ bad in cc

again_there : (kept : Kept) (r : Fetched) → Again kept r → r ≡ fetched.Absent → ⊥
again_there kept r (inl is) bad = let both : fetched.Found kept.place kept.fragment ≡ fetched.Absent = sym is ∙ bad in cc
again_there kept r (inr is) bad = let both : fetched.NoMemory ≡ fetched.Absent = sym is ∙ bad in cc

pub again_absent : (log : List Entry) (a : Address) (kept : Kept) (r : Fetched) → place_of a (adds_of log) ≡ Some kept.place → Again kept r
    → (r ≡ fetched.Absent) ↔ (place_of a (adds_of log) ≡ None)
again_absent log a kept r at is = (λ absent. absurd (again_there kept r is absent), λ none. absurd (differ (sym at ∙ none)))
  where
    differ : (let found : ℕ → Option ℕ = λ z. Some z in found kept.place ≡ None) → ⊥
    differ e = cc

pub again_held : (told : Type 0) (log : List Entry) (a : Address) (kept : Kept) (r : Fetched) → IsHeld told log (a, kept) → Again kept r
    → (place : ℕ) (f : Fragment) → r ≡ fetched.Found place f → IsHeld told log (a, record { place = place; fragment = f })
again_held told log a kept r held (inl is) place f found =
    let both : fetched.Found kept.place kept.fragment ≡ fetched.Found place f = sym is ∙ found in
    let at : kept.place ≡ place = cc in
    let of : kept.fragment ≡ f = cc in
    let same : kept ≡ record { place = place; fragment = f } = ap (λ (n : ℕ). record { place = n; fragment = kept.fragment }) at ∙ ap (λ (g : Fragment). record { place = place; fragment = g }) of in
    subst (λ (k : Kept). IsHeld told log (a, k)) same held
again_held told log a kept r held (inr is) place f found = let both : fetched.NoMemory ≡ fetched.Found place f = sym is ∙ found in absurd (cc)
