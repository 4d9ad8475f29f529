-- The tracks that stand in a list of tags: the elements video, audio and textstream inside smil, body and switch.
use Rattle.std.specs.Prelude.{ℕ, ◌-◌, Bool, true, false, List, [], ◌∷◌, ◌++◌, length, take, Option, Some, None, option_to_list, is_none, is_some, nat_le, ◌==◌, ◌&&◌}
use Rattle.std.specs.Prelude.{if◌then◌else◌, codes}
use Rattle.sm_model.specs.declared.tag.Attribute.{Attribute}
use Rattle.sm_model.specs.declared.tag.Tag.{Tag}
use Rattle.sm_model.specs.declared.tag.Tag.TheVariants.{Start, Finish, Text, End, Bad}
use Rattle.sm_model.specs.declared.track.Kind.{Kind}
use Rattle.sm_model.specs.declared.track.Kind.TheVariants as kind
use Rattle.sm_smil.specs.declared.raw_track.Form.{Form}
use Rattle.sm_smil.specs.declared.raw_track.Form.TheVariants.{Pushed, Ladder}
use Rattle.sm_smil.specs.declared.raw_track.ParamName.{ParamName}
use Rattle.sm_smil.specs.declared.raw_track.ParamName.TheVariants.{SystemBitrate, TrackId, TrackName, TimeScale, FourCc, CodecPrivateData, MaxWidth, MaxHeight}
use Rattle.sm_smil.specs.declared.raw_track.ParamName.TheVariants.{AudioTag, Channels, SamplingRate, BitsPerSample, PacketSize}
use Rattle.sm_smil.specs.declared.raw_track.SmilParam.{SmilParam}
use Rattle.sm_smil.specs.declared.raw_track.RawTrack.{RawTrack}
use Rattle.sm_model.specs.Same.{is_same}
use Rattle.sm_smil.specs.LiveTracks.{value_of}
use Rattle.sm_model.specs.Places.{first_place}
use Rattle.sm_tag.specs.Elements.{attribute_of, enters}

-- the names of params that are read
unfoldable pub text_param : List ℕ → Option ParamName
text_param b =
    if is_same b (codes "trackName") then Some TrackName
    else if is_same b (codes "FourCC") then Some FourCc
    else if is_same b (codes "CodecPrivateData") then Some CodecPrivateData
    else None

unfoldable pub number_param : List ℕ → Option ParamName
number_param b =
    if is_same b (codes "systemBitrate") then Some SystemBitrate
    else if is_same b (codes "trackID") then Some TrackId
    else if is_same b (codes "TimeScale") then Some TimeScale
    else None

unfoldable pub video_param : List ℕ → Option ParamName
video_param b =
    if is_same b (codes "MaxWidth") then Some MaxWidth
    else if is_same b (codes "MaxHeight") then Some MaxHeight
    else None

unfoldable pub audio_param : List ℕ → Option ParamName
audio_param b =
    if is_same b (codes "AudioTag") then Some AudioTag
    else if is_same b (codes "Channels") then Some Channels
    else if is_same b (codes "SamplingRate") then Some SamplingRate
    else if is_same b (codes "BitsPerSample") then Some BitsPerSample
    else if is_same b (codes "PacketSize") then Some PacketSize
    else None

abbrev pub or_name : Option ParamName → Option ParamName → Option ParamName
or_name (Some name) other = Some name
or_name None other = other

unfoldable pub param_name : List ℕ → Option ParamName
param_name b = or_name (text_param b) (or_name (number_param b) (or_name (video_param b) (audio_param b)))

-- which elements are tracks
unfoldable pub kind_in : List ℕ → Option Kind
kind_in b =
    if is_same b (codes "video") then Some kind.Video
    else if is_same b (codes "audio") then Some kind.Audio
    else if is_same b (codes "textstream") then Some kind.Text
    else None

-- a ladder alone says timescales
abbrev pub has_timescale : Form → Bool
has_timescale Pushed = false
has_timescale Ladder = true

-- whether the track reads a param of that name: the bitrate where it isn't an attribute
abbrev pub is_read : Form → RawTrack → ParamName → Bool
is_read form t SystemBitrate = is_none t.bitrate
is_read form t TimeScale = has_timescale form
is_read form t TrackId = true
is_read form t TrackName = true
is_read form t FourCc = true
is_read form t CodecPrivateData = true
is_read form t MaxWidth = true
is_read form t MaxHeight = true
is_read form t AudioTag = true
is_read form t Channels = true
is_read form t SamplingRate = true
is_read form t BitsPerSample = true
is_read form t PacketSize = true

-- a param more; where its name stood before, its place is kept
abbrev pub with_param : RawTrack → SmilParam → RawTrack
with_param t p =
    if is_some (value_of p.name t.params) then record t { again = first_place t.again p.at }
    else record t { params = t.params ++ p ∷ [] }

abbrev pub with_named : Form → RawTrack → ℕ → Option ParamName → List ℕ → RawTrack
with_named form t at None value = t
with_named form t at (Some name) value =
    if is_read form t name then with_param t (record { name = name; value = value; at = at }) else t

-- a param element, which has a name and a value
abbrev pub with_pair : Form → RawTrack → ℕ → Option (List ℕ) → Option (List ℕ) → RawTrack
with_pair form t at (Some name) (Some value) = with_named form t at (param_name name) value
with_pair form t at (Some name) None = t
with_pair form t at None value = t

abbrev pub with_element : Form → List Attribute → ℕ → RawTrack → RawTrack
with_element form attributes at t =
    with_pair form t at (attribute_of (codes "name") attributes) (attribute_of (codes "value") attributes)

-- What was met so far: the names of the open elements from the outermost on, the place of an outermost element that isn't
-- smil, the tracks that have ended, up to 64, the one that hasn't, and the place of the 65th.
pub record Walk : Type 0 where
  pub path : List (List ℕ)
  pub other : Option ℕ
  pub done : List RawTrack
  pub current : Option RawTrack
  pub over : Option ℕ

abbrev pub nothing_met : Walk
nothing_met = record { path = []; other = None; done = []; current = None; over = None }

-- inside smil, body and switch
abbrev pub is_switch : List (List ℕ) → Bool
is_switch (a ∷ b ∷ c ∷ []) = is_same a (codes "smil") && (is_same b (codes "body") && is_same c (codes "switch"))
is_switch _ = false

-- the kind of track that begins there
abbrev pub track_kind : List (List ℕ) → List ℕ → Option Kind
track_kind path name = if is_switch path then kind_in name else None

-- a track begins, and ends too where it is empty
abbrev pub begins : Walk → Bool → RawTrack → Walk
begins w empty t =
    if nat_le 64 (length w.done) then record w { over = first_place w.over t.at }
    else if empty then record w { done = w.done ++ t ∷ [] }
    else record w { current = Some t }

abbrev pub with_current : Form → List Attribute → ℕ → Option RawTrack → Option RawTrack
with_current form attributes at None = None
with_current form attributes at (Some t) = Some (with_element form attributes at t)

-- another element: the outermost one is smil, and a child of a track may be a param
abbrev pub passes : Form → Walk → List ℕ → List Attribute → ℕ → Walk
passes form w name attributes at =
    if length w.path == 0 then (if is_same name (codes "smil") then w else record w { other = first_place w.other at })
    else if length w.path == 4 && is_same name (codes "param") then record w { current = with_current form attributes at w.current }
    else w

abbrev pub meets : Form → Walk → List ℕ → List Attribute → Bool → ℕ → Option Kind → Walk
meets form w name attributes empty at None = passes form w name attributes at
meets form w name attributes empty at (Some k) =
    begins w empty (record { kind = k; at = at; bitrate = attribute_of (codes "systemBitrate") attributes; params = []; again = None })

abbrev pub begins_element : Form → Walk → List ℕ → List Attribute → Bool → ℕ → Walk
begins_element form w name attributes empty at =
    let met = meets form w name attributes empty at (track_kind w.path name) in
    record met { path = enters empty name w.path }

-- an end tag: the end of a track takes it to the others
abbrev pub ends_element : Walk → List (List ℕ) → Walk
ends_element w path =
    if length path == 3 then record w { path = path; done = w.done ++ option_to_list w.current; current = None }
    else record w { path = path }

abbrev pub step : Form → Walk → Tag → Walk
step form w (Start name attributes empty at) = begins_element form w name attributes empty at
step form w (Finish name at) = ends_element w (take (length w.path - 1) w.path)
step form w (Text at) = w
step form w End = w
step form w (Bad at) = w

abbrev pub walk_tags : Form → Walk → List Tag → Walk
walk_tags form w [] = w
walk_tags form w (t ∷ ts) = walk_tags form (step form w t) ts
