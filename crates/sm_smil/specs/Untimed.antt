-- The tracks of a channel as a pushed header says them: with a track_ID each, and no timescale, which the moov has.
use Rattle.std.specs.Prelude.{ℕ, ◌+◌, List, [], ◌∷◌}
use Rattle.sm_model.specs.declared.track.Track.{Track}
use Rattle.sm_model.specs.declared.smil.SmilTrack.{SmilTrack}

abbrev pub untimed : ℕ → Track → SmilTrack
untimed id t = record { id = id; track = record t { timescale = 0 } }

-- with the track_IDs from this one on
abbrev pub untimed_tracks : ℕ → List Track → List SmilTrack
untimed_tracks id [] = []
untimed_tracks id (t ∷ ts) = untimed id t ∷ untimed_tracks (id + 1) ts
