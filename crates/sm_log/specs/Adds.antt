-- What was kept in a channel, in order, and what is said of it: verdicts, listed times, lookahead.
use Rattle.std.specs.Prelude.{◌+◌, ◌==◌, ◌&&◌, ℕ, Bool, List, [], ◌∷◌, ◌++◌, filter, Option, Some, None, is_some, if◌then◌else◌}
use Rattle.std.specs.List.{list_all, list_any, position}
use Rattle.sm_model.specs.declared.address.Address.{Address}
use Rattle.sm_model.specs.declared.track.Track.{Track}
use Rattle.sm_log.specs.declared.verdict.Decision.{Decision}
use Rattle.sm_log.specs.declared.verdict.Decision.TheVariants as decision
use Rattle.sm_log.specs.declared.verdict.Judged.{Judged}
use Rattle.sm_log.specs.declared.verdict.Judged.TheVariants as judged
use Rattle.sm_model.specs.Same.{is_same}
use Rattle.sm_log.specs.Times.{entry_at, with_entry, decision}

-- a fragment that was kept: its address, its duration in ticks, and its place in the log
pub record Add : Type 0 where
  pub address : Address
  pub duration : ℕ
  pub place : ℕ

-- ---- tracks

-- the track of that stream and bitrate
abbrev pub track_at : List ℕ → ℕ → List Track → Option Track
track_at stream bitrate [] = None
track_at stream bitrate (t ∷ ts) =
    if is_same t.name stream && t.bitrate == bitrate then Some t else track_at stream bitrate ts

-- the track_ID of a stream and bitrate: the place of its track in the channel, from 1
abbrev pub ids : Option ℕ → ℕ
ids None = 0
ids (Some place) = place + 1

abbrev pub id_in : List Track → Address → ℕ
id_in channel a = ids (position (λ t. is_same t.name a.stream && (t.bitrate == a.bitrate)) channel)

abbrev pub is_declared : List Track → Address → Bool
is_declared channel address = is_some (track_at address.stream address.bitrate channel)

-- the tracks of that stream
abbrev pub tracks_of : List ℕ → List Track → List Track
tracks_of stream channel = filter (λ t. is_same t.name stream) channel

-- the names so far, and those that stand first in these tracks
abbrev pub names_from : List (List ℕ) → List Track → List (List ℕ)
names_from names [] = names
names_from names (t ∷ ts) =
    if list_any (λ n. is_same n t.name) names then names_from names ts else names_from (names ++ t.name ∷ []) ts

-- the streams of a channel, in the order in which each name first stands
abbrev pub names_of : List Track → List (List ℕ)
names_of channel = names_from [] channel

-- ---- places and times

abbrev pub is_at : Address → Add → Bool
is_at address a =
    is_same a.address.stream address.stream && (a.address.bitrate == address.bitrate && a.address.time == address.time)

-- the place of what is kept at that address
abbrev pub place_of : Address → List Add → Option ℕ
place_of address [] = None
place_of address (a ∷ more) = if is_at address a then Some a.place else place_of address more

-- the times so far, and those of these
abbrev pub times_from : List ℕ → List (ℕ × ℕ) → List Add → List (ℕ × ℕ)
times_from stream times [] = times
times_from stream times (a ∷ more) =
    times_from stream (if is_same a.address.stream stream then with_entry a.address.time a.duration times else times) more

-- the starts and durations of what is kept of a stream, each start once, in order
abbrev pub times_of : List ℕ → List Add → List (ℕ × ℕ)
times_of stream adds = times_from stream [] adds

-- ---- verdicts

abbrev pub known_or_new : Option ℕ → Judged
known_or_new None = judged.New
known_or_new (Some place) = judged.Known place

abbrev pub judged_by : Option ℕ → Decision → Judged
judged_by kept decision.New = judged.New
judged_by kept decision.There = known_or_new kept
judged_by kept (decision.Clash k) = judged.Clash k
judged_by kept (decision.Overlap end) = judged.Overlap end

-- the first that holds: no track has its stream and bitrate, another duration stands at its start, its address is kept, its
-- start stands with its duration, no time overlaps, the first that does
abbrev pub verdict : List Track → List Add → Address → ℕ → Judged
verdict channel adds address duration =
    if is_declared channel address then judged_by (place_of address adds) (decision (times_of address.stream adds) address.time duration)
    else judged.NotDeclared

-- ---- listed times

abbrev pub is_kept : List Add → List ℕ → ℕ → Track → Bool
is_kept adds stream time t =
    is_some (place_of (record { stream = stream; bitrate = t.bitrate; time = time }) adds)

-- every track of the stream is kept there
abbrev pub is_listed : List Track → List Add → List ℕ → ℕ × ℕ → Bool
is_listed channel adds stream x = list_all (is_kept adds stream x.0) (tracks_of stream channel)

abbrev pub listed : List Track → List Add → List ℕ → List (ℕ × ℕ)
listed channel adds stream = filter (is_listed channel adds stream) (times_of stream adds)

-- ---- lookahead

abbrev pub starting : ℕ → Option ℕ → (ℕ → List (ℕ × ℕ)) → List (ℕ × ℕ)
starting start None behind = []
starting start (Some duration) behind = (start, duration) ∷ behind (start + duration)

-- up to two: the one that starts there, and the one that starts where that ends
abbrev pub two_from : List (ℕ × ℕ) → ℕ → List (ℕ × ℕ)
two_from times start =
    starting start (entry_at start times) (λ next. starting next (entry_at next times) (λ _. []))

abbrev pub behind : List (ℕ × ℕ) → ℕ → Option ℕ → List (ℕ × ℕ)
behind times start None = []
behind times start (Some duration) = two_from times (start + duration)

-- up to two listed times behind what is kept at that start, each starting where the one before it ends
abbrev pub ahead : List Track → List Add → List ℕ → ℕ → List (ℕ × ℕ)
ahead channel adds stream start =
    behind (listed channel adds stream) start (entry_at start (times_of stream adds))
