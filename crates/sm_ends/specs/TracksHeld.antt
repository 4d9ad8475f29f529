-- What contracts see of tracks in memory.
use Rattle.std.specs.Prelude.{ℕ, Bool, List, [], ◌∷◌, nat_eq, if◌then◌else◌}

-- the bytes of one track
pub record TrackHeld : Type 0 where
  pub track : ℕ
  pub bytes : List ℕ

-- `calls` is the number of the last call, from 1; it stands still at 2^64 - 1
pub record TracksState : Type 0 where
  pub tracks : List TrackHeld
  pub failing : List ℕ
  pub calls : ℕ
  pub faults : ℕ
  pub starved : Bool

-- the bytes of the track of that number, and none where nothing was added to it
abbrev pub held_at : List TrackHeld → ℕ → List ℕ
held_at [] k = []
held_at (t ∷ ts) k = if nat_eq t.track k then t.bytes else held_at ts k
