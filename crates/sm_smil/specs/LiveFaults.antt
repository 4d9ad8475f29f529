-- What is at fault in the tracks of a live manifest, by the places of the elements at fault.
use Rattle.std.specs.Prelude.{ℕ, Bool, false, List, [], ◌∷◌, ◌++◌, Option, Some, None, option_to_list, is_none, ◌==◌, ◌&&◌, ◌||◌, not, if◌then◌else◌}
use Rattle.sm_smil.specs.declared.raw_track.Form.{Form}
use Rattle.sm_smil.specs.declared.raw_track.Form.TheVariants.{Pushed, Ladder}
use Rattle.sm_smil.specs.declared.raw_track.ParamName.TheVariants.{TrackId}
use Rattle.sm_smil.specs.declared.raw_track.SmilParam.{SmilParam}
use Rattle.sm_smil.specs.declared.raw_track.RawTrack.{RawTrack}
use Rattle.sm_model.specs.Digits.{is_number}
use Rattle.sm_model.specs.Same.{is_same}
use Rattle.sm_smil.specs.LiveTracks.{value_of, is_fit, bitrate_text, bitrate_of, track_id_of, stream_name, timescale_of}
use Rattle.sm_smil.specs.LiveWalk.{Walk}
use Rattle.sm_model.specs.Kinds.{are_one_kind}

abbrev pub is_invalid : Option (List ℕ) → Bool
is_invalid None = false
is_invalid (Some text) = not (is_number text)

-- the params whose values don't fit
abbrev pub misfits : List SmilParam → List ℕ
misfits [] = []
misfits (p ∷ ps) = if is_fit p.name p.value then misfits ps else p.at ∷ misfits ps

-- what is seen before the track has ended
abbrev pub inner_faults : RawTrack → List ℕ
inner_faults t =
    (if is_invalid t.bitrate then t.at ∷ [] else []) ++ (misfits t.params ++ option_to_list t.again)

-- both are there and equal, or differ
abbrev pub are_equal : Option ℕ → Option ℕ → Bool
are_equal (Some a) (Some b) = a == b
are_equal (Some a) None = false
are_equal None b = false

abbrev pub do_differ : Option ℕ → Option ℕ → Bool
do_differ (Some a) (Some b) = not (a == b)
do_differ (Some a) None = false
do_differ None b = false

-- tracks of one name differ by bitrate, and agree in kind and timescale
unfoldable pub clash : RawTrack → RawTrack → Bool
clash a b =
    is_same (stream_name a) (stream_name b)
    && (are_equal (bitrate_of a) (bitrate_of b) || (not (are_one_kind a.kind b.kind) || do_differ (timescale_of a) (timescale_of b)))

-- in a push each track has a track_ID of its own; a ladder doesn't use them
abbrev pub share_id : Form → RawTrack → RawTrack → Bool
share_id Pushed a b = are_equal (track_id_of a) (track_id_of b)
share_id Ladder a b = false

unfoldable pub collide : Form → RawTrack → RawTrack → Bool
collide form a b = clash a b || share_id form a b

abbrev pub lacks_id : Form → List SmilParam → Bool
lacks_id Pushed params = is_none (value_of TrackId params)
lacks_id Ladder params = false

unfoldable pub lacks_part : Form → RawTrack → Bool
lacks_part form t = is_none (bitrate_text t.bitrate t.params) || lacks_id form t.params

abbrev pub collides_with : Form → List RawTrack → RawTrack → Bool
collides_with form [] t = false
collides_with form (e ∷ es) t = collide form e t || collides_with form es t

-- what the end of the track shows: a part that it lacks, or what it shares with an earlier one
unfoldable pub end_faults : Form → List RawTrack → RawTrack → List ℕ
end_faults form earlier t = if lacks_part form t || collides_with form earlier t then t.at ∷ [] else []

abbrev pub tracks_faults : Form → List RawTrack → List RawTrack → List ℕ
tracks_faults form earlier [] = []
tracks_faults form earlier (t ∷ ts) =
    (inner_faults t ++ end_faults form earlier t) ++ tracks_faults form (earlier ++ t ∷ []) ts

abbrev pub open_faults : Option RawTrack → List ℕ
open_faults None = []
open_faults (Some t) = inner_faults t

-- a tag at fault, else a text without a track, whose place is its length
abbrev pub text_faults : ℕ → Option ℕ → List RawTrack → List ℕ
text_faults size (Some at) done = at ∷ []
text_faults size None [] = size ∷ []
text_faults size None (t ∷ ts) = []

-- the places of all that is at fault in a text of that length, whose tags were walked over up to a fault or the end
abbrev pub faults_of : Form → ℕ → Option ℕ → Walk → List ℕ
faults_of form size bad w =
    tracks_faults form [] w.done ++ (open_faults w.current ++ (option_to_list w.other ++ (option_to_list w.over ++ text_faults size bad w.done)))
