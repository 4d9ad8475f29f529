-- What the parts of a catalog keep.
use Rattle.std.specs.Prelude.{◌==◌, ◌&&◌, ℕ, Bool, List, [], ◌∷◌, if◌then◌else◌}
use Rattle.sm_model.specs.Same.{is_same}
use Rattle.sm_log.specs.Times.{with_entry}
use Rattle.sm_log.specs.Adds.{Add}

abbrev pub is_track : List ℕ → ℕ → Add → Bool
is_track stream bitrate a = is_same a.address.stream stream && a.address.bitrate == bitrate

-- the places so far by time, and those of these adds of a track
abbrev pub places_from : List ℕ → ℕ → List (ℕ × ℕ) → List Add → List (ℕ × ℕ)
places_from stream bitrate places [] = places
places_from stream bitrate places (a ∷ more) =
    places_from stream bitrate (if is_track stream bitrate a then with_entry a.address.time a.place places else places) more

abbrev pub places_of : List ℕ → ℕ → List Add → List (ℕ × ℕ)
places_of stream bitrate adds = places_from stream bitrate [] adds
