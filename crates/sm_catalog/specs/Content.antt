-- What contracts see of a catalog and of its parts.
use Rattle.std.specs.Prelude.{◌≡◌, ◌≤◌, ◌<◌, ℕ, slice_index_or, List, [], ◌∷◌, length, if◌then◌else◌}
use Rattle.std.specs.List.{AllByRecursion, AllZip}
use Rattle.sm_model.specs.Same.{is_same}
use Rattle.sm_log.specs.Times.{IsSpan}
use Rattle.sm_model.specs.declared.track.Track.{Track}
use Rattle.sm_log.specs.Adds.{Add, tracks_of}
use Rattle.sm_timeline.specs.Lines.{Entries}

-- a stream: its times with their counts, those that are listed, how many tracks it has, for how many more fragments there is
-- room in the stream, and for how many of these the catalog has made room everywhere
pub record Lane : Type 0 where
  pub name : List ℕ
  pub tracks : ℕ
  pub times : List (ℕ × ℕ)
  pub counts : List ℕ
  pub listed : List (ℕ × ℕ)
  pub room : ℕ
  pub spare : ℕ

-- the spare is backed by room, and what is listed has a duration and an end that fits
pub record IsLaneInside (spare room : ℕ) (listed : List (ℕ × ℕ)) : Type 0 where
  pub backed : spare ≤ room
  pub spans : AllByRecursion IsSpan listed

-- the channel, what was added in order, and for how many more fragments of each stream there is room
pub record Content : Type 0 where
  pub channel : List Track
  pub adds : List Add
  pub spares : List (List ℕ × ℕ)

-- for how many more fragments of that stream there is room
abbrev pub spare_of : List ℕ → List (List ℕ × ℕ) → ℕ
spare_of name [] = 0
spare_of name (s ∷ ss) = if is_same s.0 name then s.1 else spare_of name ss

-- a stream without times
pub record IsFresh (channel : List Track) (l : Lane) : Type 0 where
  pub tracks : l.tracks ≡ length (tracks_of l.name channel)
  pub times : l.times ≡ []
  pub counts : l.counts ≡ []
  pub listed : l.listed ≡ []
  pub spare : l.spare ≡ 0

-- an equal stream, without spare
pub record IsCopy (l m : Lane) : Type 0 where
  pub name : m.name ≡ l.name
  pub tracks : m.tracks ≡ l.tracks
  pub times : m.times ≡ l.times
  pub counts : m.counts ≡ l.counts
  pub listed : m.listed ≡ l.listed
  pub spare : m.spare ≡ 0

abbrev pub AreCopies : List Lane → List Lane → Type 0
AreCopies ls ms = AllZip IsCopy ls ms

-- the same entries, and at least as much room
pub record HasMoreRoom (a b : Entries) : Type 0 where
  pub entries : b.entries ≡ a.entries
  pub room : a.room ≤ b.room

pub record HaveMoreRoom (before behind : List Entries) : Type 0 where
  pub as_many : length behind ≡ length before
  pub each : (k : ℕ) (d : Entries) → k < length before → HasMoreRoom (slice_index_or before k d) (slice_index_or behind k d)
