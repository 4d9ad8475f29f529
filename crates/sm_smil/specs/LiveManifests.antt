-- What a live manifest says: its tracks, or the least place of a fault.
use Rattle.std.specs.Prelude.{◌≡◌, ℕ, List, length, map, Option, Some, None, Result, Ok, Err}
use Rattle.sm_model.specs.declared.tag.Tag.{Tag}
use Rattle.sm_model.specs.declared.track.Track.{Track}
use Rattle.sm_model.specs.declared.smil.SmilTrack.{SmilTrack}
use Rattle.sm_smil.specs.declared.raw_track.Form.{Form}
use Rattle.sm_smil.specs.declared.raw_track.Form.TheVariants.{Pushed, Ladder}
use Rattle.sm_smil.specs.declared.raw_track.RawTrack.{RawTrack}
use Rattle.sm_tag.specs.Tags.{TagsOf}
use Rattle.sm_smil.specs.LiveTracks.{smil_track, ladder_track}
use Rattle.sm_smil.specs.LiveWalk.{nothing_met, walk_tags}
use Rattle.sm_smil.specs.LiveFaults.{faults_of}
use Rattle.sm_model.specs.Places.{least_from}
use Rattle.sm_tag.specs.Elements.{bad_of}

-- the least place of a fault in a text of that length with these tags
abbrev pub fault_of : Form → ℕ → List Tag → Option ℕ
fault_of form size tags = least_from None (faults_of form size (bad_of tags) (walk_tags form nothing_met tags))

-- a fault, else the tracks
abbrev pub tracks_or_fault : {X : Type 0} → (RawTrack → X) → Option ℕ → List RawTrack → Result (List X) ℕ
tracks_or_fault track (Some at) done = Err at
tracks_or_fault track None done = Ok (map track done)

-- the text of a pushed header, and its tracks or the place of its fault
abbrev pub IsLiveManifest : List ℕ → Result (List SmilTrack) ℕ → Type 0
IsLiveManifest text r =
    (tags : List Tag) × TagsOf text tags × (r ≡ tracks_or_fault smil_track (fault_of Pushed (length text) tags) (walk_tags Pushed nothing_met tags).done)

-- the text of a ladder, and its channel or the place of its fault
abbrev pub IsLadder : List ℕ → Result (List Track) ℕ → Type 0
IsLadder text r =
    (tags : List Tag) × TagsOf text tags × (r ≡ tracks_or_fault ladder_track (fault_of Ladder (length text) tags) (walk_tags Ladder nothing_met tags).done)
