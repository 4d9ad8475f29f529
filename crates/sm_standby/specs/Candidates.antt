-- Where a fragment may stand that a manifest doesn't list yet, and the order in which it is asked for.
use Rattle.std.specs.Prelude.{◌+◌, ◌-◌, ◌^◌, ◌==◌, ℕ, zero, suc, List, [], ◌∷◌, ◌++◌, length, map, min, max, slice_get, Option, None, Some, if◌then◌else◌}
use Rattle.sm_model.specs.declared.address.Address.{Address}
use Rattle.sm_model.specs.declared.track.Track.{Track}
use Rattle.std.specs.List.{list_any}
use Rattle.sm_model.specs.Same.{is_same}
use Rattle.sm_log.specs.Adds.{tracks_of}

-- ---- one stream

-- where a listed time ends, in 64 bits
abbrev pub end_of : ℕ × ℕ → ℕ
end_of t = min (t.0 + t.1) (2 ^ 64 - 1)

-- a start, unless what stands before it ends there
abbrev pub start_behind : Option ℕ → ℕ → List ℕ
start_behind None start = start ∷ []
start_behind (Some end) start = if end == start then [] else start ∷ []

-- the starts and the ends of these, behind what ends there, each once
abbrev pub bounds_behind : Option ℕ → List (ℕ × ℕ) → List ℕ
bounds_behind end [] = []
bounds_behind end (t ∷ more) = start_behind end t.0 ++ (end_of t ∷ bounds_behind (Some (end_of t)) more)

-- the starts and the ends of listed times, in order of time; 0 where none is listed
abbrev pub candidates : List (ℕ × ℕ) → List ℕ
candidates [] = 0 ∷ []
candidates (t ∷ more) = bounds_behind None (t ∷ more)

-- ---- all streams

-- a stream, and its candidates
pub record Candidates : Type 0 where
  pub name : List ℕ
  pub times : List ℕ

-- the address of a track at this time
abbrev pub address_in : ℕ → Track → Address
address_in time t = record { stream = t.name; bitrate = t.bitrate; time = time }

-- the addresses of a stream's tracks, in the order of the channel
abbrev pub addresses_at : List Track → List ℕ → Option ℕ → List Address
addresses_at channel name None = []
addresses_at channel name (Some time) = map (address_in time) (tracks_of name channel)

-- stream by stream, the addresses at the candidates of this place
abbrev pub row : List Track → ℕ → List Candidates → List Address
row channel j [] = []
row channel j (c ∷ more) = addresses_at channel c.name (slice_get c.times j) ++ row channel j more

-- how many candidates the stream has that has most
abbrev pub longest : List Candidates → ℕ
longest [] = 0
longest (c ∷ more) = max (length c.times) (longest more)

-- so many rows, from this place on
abbrev pub rows : List Track → List Candidates → ℕ → ℕ → List Address
rows channel all j zero = []
rows channel all j (suc n) = row channel j all ++ rows channel all (j + 1) n

-- the streams of a channel, in the order in which their names first stand, with the candidates of their times
abbrev pub candidates_by : (List ℕ → List (ℕ × ℕ)) → List (List ℕ) → List Candidates
candidates_by times [] = []
candidates_by times (name ∷ names) = (record { name = name; times = candidates (times name) }) ∷ candidates_by times names

-- with those of a track's stream behind them, if they aren't there
abbrev pub with_stream : (List ℕ → List (ℕ × ℕ)) → List Candidates → Track → List Candidates
with_stream times all t = if list_any (λ c. is_same c.name t.name) all then all else all ++ (record { name = t.name; times = candidates (times t.name) }) ∷ []

-- what a round asks for: the first candidates of all streams, then the second ones, and so on
abbrev pub addresses_by : List Track → List Candidates → List Address
addresses_by channel all = rows channel all 0 (longest all)
