-- One add more: times, places, and what is kept.
use Rattle.std.proofs.Common.{◌≡◌, ℕ, Bool, true, false, ◌||◌, cond, List, [], ◌∷◌, ◌++◌, Option, Some, None, is_some, refl, ap, ◌∙◌}
use Rattle.sm_model.specs.declared.address.Address.{Address}
use Rattle.sm_model.specs.declared.track.Track.{Track}
use Rattle.sm_model.specs.Same.{is_same}
use Rattle.sm_log.specs.Times.{with_entry, AreSorted}
use Rattle.sm_log.specs.Adds.{Add, is_at, place_of, times_from, is_kept}
use Rattle.sm_log.proofs.Choice.{chosen}
use Rattle.sm_log.proofs.Entries.{or_place, sorted_with}

pub times_snoc : (s : List ℕ) (ts : List (ℕ × ℕ)) (adds : List Add) (a : Add)
    → times_from s ts (adds ++ a ∷ []) ≡ cond (is_same a.address.stream s) (with_entry a.address.time a.duration (times_from s ts adds)) (times_from s ts adds)
times_snoc s ts [] a = refl
times_snoc s ts (b ∷ adds) a = times_snoc s (cond (is_same b.address.stream s) (with_entry b.address.time b.duration ts) ts) adds a

pub place_snoc : (x : Address) (adds : List Add) (a : Add) → place_of x (adds ++ a ∷ []) ≡ or_place (place_of x adds) (cond (is_at x a) (Some a.place) None)
place_snoc x [] a = refl
place_snoc x (b ∷ adds) a = by_test (is_at x b) (place_snoc x adds a)
  where
    by_test : (t : Bool) → place_of x (adds ++ a ∷ []) ≡ or_place (place_of x adds) (cond (is_at x a) (Some a.place) None)
        → cond t (Some b.place) (place_of x (adds ++ a ∷ [])) ≡ or_place (cond t (Some b.place) (place_of x adds)) (cond (is_at x a) (Some a.place) None)
    by_test true rest = refl
    by_test false rest = rest

pub sorted_times_from : (s : List ℕ) (ts : List (ℕ × ℕ)) (adds : List Add) → AreSorted ts → AreSorted (times_from s ts adds)
sorted_times_from s ts [] sorted = sorted
sorted_times_from s ts (a ∷ adds) sorted =
    sorted_times_from s (cond (is_same a.address.stream s) (with_entry a.address.time a.duration ts) ts) adds
    (chosen (is_same a.address.stream s) AreSorted (with_entry a.address.time a.duration ts) ts (λ _. sorted_with a.address.time a.duration ts sorted) (λ _. sorted))

-- ---- what is kept

kept_or : (o : Option ℕ) (b : Bool) (p : ℕ) → is_some (or_place o (cond b (Some p) None)) ≡ (is_some o || b)
kept_or None true p = refl
kept_or None false p = refl
kept_or (Some q) b p = refl

pub kept_snoc : (adds : List Add) (a : Add) (s : List ℕ) (t : ℕ) (tr : Track) → is_kept (adds ++ a ∷ []) s t tr ≡ (is_kept adds s t tr || is_at (record { stream = s; bitrate = tr.bitrate; time = t }) a)
kept_snoc adds a s t tr =
    let x : Address = record { stream = s; bitrate = tr.bitrate; time = t } in
    ap is_some (place_snoc x adds a) ∙ kept_or (place_of x adds) (is_at x a) a.place
