-- What the parts of a catalog say together.
use Rattle.std.specs.Prelude.{◌≡◌, ◌≤◌, ◌<◌, ◌+◌, ℕ, zero, suc, List, [], ◌∷◌, length, map, filter, All, sum_by, slice_index_or}
use Rattle.sm_model.specs.declared.address.Address.{Address}
use Rattle.sm_model.specs.declared.track.Track.{Track}
use Rattle.sm_model.specs.Channels.{IsChannel}
use Rattle.sm_log.specs.Adds.{Add, tracks_of, names_of, times_of, is_kept, listed}
use Rattle.sm_timeline.specs.Lines.{Entries, count_at}
use Rattle.sm_catalog.specs.declared.added.Added.{Added}
use Rattle.sm_catalog.specs.Content.{Lane}
use Rattle.sm_catalog.specs.Kept.{places_of}

-- the address of a track, by its place, at a time
abbrev pub address_in : List Track → ℕ → ℕ → Address
address_in [] place time = record { stream = []; bitrate = 0; time = time }
address_in (t ∷ ts) zero time = record { stream = t.name; bitrate = t.bitrate; time = time }
address_in (t ∷ ts) (suc place) time = address_in ts place time

abbrev pub add_in : List Track → Added → Add
add_in channel x = record { address = address_in channel x.track x.time; duration = x.duration; place = x.place }

abbrev pub adds_in : List Track → List Added → List Add
adds_in channel added = map (add_in channel) added

abbrev pub spares_in : List Lane → List (List ℕ × ℕ)
spares_in lanes = map (λ l. (l.name, l.spare)) lanes

-- a stream has the times of what was added of it, their counts, and those that are listed
pub record IsLane (channel : List Track) (adds : List Add) (l : Lane) : Type 0 where
  pub times : l.times ≡ times_of l.name adds
  pub counts : (time : ℕ) → count_at time l.times l.counts ≡ length (filter (is_kept adds l.name time) (tracks_of l.name channel))
  pub listed : l.listed ≡ listed channel adds l.name
  pub tracks : l.tracks ≡ length (tracks_of l.name channel)
  pub backed : l.spare ≤ l.room

-- each track has its places, each stream of the channel its lane, and what is spare is backed by room everywhere
pub record IsWhole (channel : List Track) (added : List Added) (kept : List Entries) (lanes : List Lane) (reserved capacity : ℕ) : Type 0 where
  pub valid : IsChannel channel
  pub within : All (λ x. x.track < length channel) added
  pub as_many : length kept ≡ length channel
  pub places : (k : ℕ) (d : Entries) (e : Track) → k < length channel
      → (slice_index_or kept k d).entries ≡ places_of (slice_index_or channel k e).name (slice_index_or channel k e).bitrate (adds_in channel added)
  pub names : map (λ l. l.name) lanes ≡ names_of channel
  pub each : All (IsLane channel (adds_in channel added)) lanes
  pub rooms : (j k : ℕ) (d : Lane) (e : Track) (f : Entries) → j < length lanes → k < length channel
      → (slice_index_or channel k e).name ≡ (slice_index_or lanes j d).name → (slice_index_or lanes j d).spare ≤ (slice_index_or kept k f).room
  pub sum : reserved ≡ sum_by (λ l. l.spare) lanes
  pub room : length added + reserved ≤ capacity
