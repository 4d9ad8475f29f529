-- What fragments need of the tracks of a channel that was written as a header.
use Rattle.std.specs.Prelude.{ℕ, ◌+◌, List, [], ◌∷◌}
use Rattle.sm_model.specs.declared.track.Track.{Track}
use Rattle.sm_model.specs.declared.header.HeaderTrack.{HeaderTrack}
use Rattle.sm_model.specs.Moov.{no_defaults}

-- a track's name and bitrate, and no defaults
abbrev pub written_key : ℕ → Track → HeaderTrack
written_key id t = record { id = id; stream = t.name; bitrate = t.bitrate; defaults = no_defaults }

-- with the track_IDs from this one on
abbrev pub written_keys : ℕ → List Track → List HeaderTrack
written_keys id [] = []
written_keys id (t ∷ ts) = written_key id t ∷ written_keys (id + 1) ts
