-- What a step over the bytes given at the place `old` answers, and where it leads.
use Rattle.std.specs.Prelude.{◌≡◌, ◌≢◌, ◌⊎◌, ℕ, ◌<◌, ◌≤◌, min, true, false, List, [], length, take, slice_index}
use Rattle.sm_body.specs.declared.framer.Step.{Step}
use Rattle.sm_body.specs.declared.framer.Step.TheVariants.{Skip, Body, End, More, Bad}
use Rattle.sm_body.specs.declared.place.Place.{Place}
use Rattle.sm_body.specs.declared.place.Place.TheVariants.{Ended, Failed}
use Rattle.sm_body.specs.Places.{next_place, place_after, is_data, data_left, body_from}

abbrev pub StepGives : Place → List ℕ → Step → Place → Type 0
StepGives old bytes (Skip n) new =
    (is_data old ≡ false) × (n ≡ 1) × (n ≤ length bytes) × (new ≡ place_after old (take n bytes)) × (new ≢ Failed) × (new ≢ Ended)
StepGives old bytes (Body n) new =
    (is_data old ≡ true) × (0 < n) × (n ≡ min (length bytes) (data_left old)) × (new ≡ place_after old (take n bytes))
    × (body_from old (take n bytes) ≡ take n bytes) × (new ≢ Failed)
StepGives old bytes (End n) new =
    (is_data old ≡ false) × (n ≤ 1) × (n ≤ length bytes) × (place_after old (take n bytes) ≡ Ended) × (new ≡ Ended)
StepGives old bytes More new = (bytes ≡ []) × (new ≡ old) × (old ≢ Ended) × (old ≢ Failed)
StepGives old bytes Bad new =
    (is_data old ≡ false) × (new ≡ Failed) × ((old ≡ Failed) ⊎ ((old ≢ Ended) × (0 < length bytes) × (next_place old (slice_index bytes 0) ≡ Failed)))
