-- One add more: times, places, and what is kept.
use Rattle.std.proofs.Common.{◌≡◌, ℕ, Bool, true, false, ◌&&◌, cond, eqb, List, [], ◌∷◌, ◌++◌, Option, Some, None, refl, ◌∙◌}
use Rattle.sm_model.specs.Same.{is_same}
use Rattle.sm_log.specs.Times.{entry_at, with_entry, AreSorted}
use Rattle.sm_log.specs.Adds.{Add, place_of}
use Rattle.sm_log.proofs.Choice.{chosen}
use Rattle.sm_log.proofs.Entries.{sorted_with}
use Rattle.sm_catalog.specs.Kept.{is_track, places_from}
use Rattle.sm_log.proofs.Entries.{or_place}
use Rattle.sm_log.proofs.Entries.{or_place, entry_with}

pub places_snoc : (s : List ℕ) (r : ℕ) (ps : List (ℕ × ℕ)) (adds : List Add) (a : Add)
    → places_from s r ps (adds ++ a ∷ []) ≡ cond (is_track s r a) (with_entry a.address.time a.place (places_from s r ps adds)) (places_from s r ps adds)
places_snoc s r ps [] a = refl
places_snoc s r ps (b ∷ adds) a = places_snoc s r (cond (is_track s r b) (with_entry b.address.time b.place ps) ps) adds a

-- ---- places by time

pub places_are : (s : List ℕ) (r t : ℕ) (ps : List (ℕ × ℕ)) (adds : List Add) → AreSorted ps → entry_at t (places_from s r ps adds) ≡ or_place (entry_at t ps) (place_of (record { stream = s; bitrate = r; time = t }) adds)
places_are s r t ps [] sorted = by_option (entry_at t ps)
  where
    by_option : (o : Option ℕ) → o ≡ or_place o None
    by_option None = refl
    by_option (Some p) = refl
places_are s r t ps (a ∷ adds) sorted =
    places_are s r t (cond (is_track s r a) (with_entry a.address.time a.place ps) ps) adds (chosen (is_track s r a) AreSorted (with_entry a.address.time a.place ps) ps (λ _. sorted_with a.address.time a.place ps sorted) (λ _. sorted))
    ∙ by_test (is_same a.address.stream s) (eqb a.address.bitrate r) (eqb a.address.time t) refl (entry_with t a.address.time a.place ps sorted)
  where
    rest : Option ℕ
    rest = place_of (record { stream = s; bitrate = r; time = t }) adds

    by_option : (o : Option ℕ) → or_place (or_place o (Some a.place)) rest ≡ or_place o (Some a.place)
    by_option None = refl
    by_option (Some p) = refl

    by_test : (b c d : Bool) → eqb a.address.time t ≡ d → entry_at t (with_entry a.address.time a.place ps) ≡ cond (eqb a.address.time t) (or_place (entry_at t ps) (Some a.place)) (entry_at t ps)
        → or_place (entry_at t (cond (b && c) (with_entry a.address.time a.place ps) ps)) rest ≡ or_place (entry_at t ps) (cond (b && (c && d)) (Some a.place) rest)
    by_test true true true is w = rw (w, is) (by_option (entry_at t ps))
    by_test true true false is w = rw (w, is) refl
    by_test true false d is w = refl
    by_test false c d is w = refl
