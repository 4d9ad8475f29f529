-- What the header of a push says: a channel with its track_IDs, out of a live manifest and a moov.
use Rattle.std.specs.Prelude.{ℕ, Bool, false, not, ◌&&◌, ◌||◌, ◌==◌, List, [], ◌∷◌, Option, Some, None, option_and_then, Result, Ok, Err, if◌then◌else◌}
use Rattle.std.specs.Option.{option_map, option_map_or}
use Rattle.std.specs.List.{list_any}
use Rattle.sm_model.specs.declared.cause.Cause.{Cause}
use Rattle.sm_model.specs.declared.cause.Cause.TheVariants.{BadLiveManifest, BadMoov, Protected}
use Rattle.sm_model.specs.declared.heads.TrackHead.{TrackHead}
use Rattle.sm_model.specs.declared.track.Track.{Track}
use Rattle.sm_model.specs.declared.smil.SmilTrack.{SmilTrack}
use Rattle.sm_model.specs.declared.header.HeaderTrack.{HeaderTrack}
use Rattle.sm_model.specs.declared.header.Header.{Header}
use Rattle.sm_model.specs.Same.{is_same}
use Rattle.sm_smil.specs.LiveRead.{live_manifest}
use Rattle.sm_model.specs.Moov.{moov}

-- the head of the track with this track_ID
abbrev pub head_for : ℕ → List TrackHead → Option TrackHead
head_for id [] = None
head_for id (h ∷ hs) = if h.id == id then Some h else head_for id hs

-- the head of each track of the live manifest, in their order; none where the moov lacks one
unfoldable pub heads_for : List TrackHead → List SmilTrack → Option (List TrackHead)
heads_for heads [] = Some []
heads_for heads (t ∷ ts) = option_and_then (λ h. option_map (λ hs. h ∷ hs) (heads_for heads ts)) (head_for t.id heads)

-- a track with the timescale that the moov says
abbrev pub timed : SmilTrack → TrackHead → Track
timed t h = record t.track { timescale = h.timescale }

-- the tracks with their heads
abbrev pub tracks_of : List SmilTrack → List TrackHead → List Track
tracks_of [] hs = []
tracks_of (t ∷ ts) [] = []
tracks_of (t ∷ ts) (h ∷ hs) = timed t h ∷ tracks_of ts hs

-- what fragments need of a track
abbrev pub key_of : SmilTrack → TrackHead → HeaderTrack
key_of t h = record { id = t.id; stream = t.track.name; bitrate = t.track.bitrate; defaults = h.defaults }

abbrev pub keys_of : List SmilTrack → List TrackHead → List HeaderTrack
keys_of [] hs = []
keys_of (t ∷ ts) [] = []
keys_of (t ∷ ts) (h ∷ hs) = key_of t h ∷ keys_of ts hs

-- one name, and different timescales
abbrev pub is_off : Track → Track → Bool
is_off a b = is_same a.name b.name && not (a.timescale == b.timescale)

-- two tracks of one name have different timescales
unfoldable pub has_two_timescales : List Track → Bool
has_two_timescales [] = false
has_two_timescales (t ∷ ts) = list_any (is_off t) ts || has_two_timescales ts

-- a track that the live manifest names is encrypted
abbrev pub names_protected : List TrackHead → Bool
names_protected hs = list_any (λ h. h.protected) hs

-- the tracks with their heads, judged together
unfoldable pub header_with : List SmilTrack → List TrackHead → Result Header Cause
header_with ts hs =
    if has_two_timescales (tracks_of ts hs) then Err BadMoov
    else if names_protected hs then Err Protected
    else Ok (record { channel = tracks_of ts hs; tracks = keys_of ts hs })

-- what a live manifest said, and then what a moov said
abbrev pub header_by : Result (List SmilTrack) ℕ → Option (List TrackHead) → Result Header Cause
header_by (Err inside) heads = Err (BadLiveManifest inside)
header_by (Ok ts) None = Err BadMoov
header_by (Ok ts) (Some heads) = option_map_or (header_with ts) (heads_for heads ts) (Err BadMoov)

-- the header of the text of a live manifest and the body of a moov, or the first cause why it is refused
unfoldable pub header_of : List ℕ → List ℕ → Result Header Cause
header_of text body = header_by (live_manifest text) (moov body)

-- the track with this track_ID
abbrev pub track_with : ℕ → List HeaderTrack → Option HeaderTrack
track_with id [] = None
track_with id (t ∷ ts) = if t.id == id then Some t else track_with id ts

abbrev pub is_named : List ℕ → ℕ → HeaderTrack → Bool
is_named stream bitrate t = is_same t.stream stream && t.bitrate == bitrate

-- the track_ID of the track of this name and bitrate
abbrev pub id_for : List ℕ → ℕ → List HeaderTrack → Option ℕ
id_for stream bitrate [] = None
id_for stream bitrate (t ∷ ts) = if is_named stream bitrate t then Some t.id else id_for stream bitrate ts
