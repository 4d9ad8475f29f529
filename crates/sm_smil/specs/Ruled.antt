-- What a live manifest says: its tracks, or the least place of all that is at fault.
use Rattle.std.specs.Prelude.{◌≡◌, ◌≤◌, ℕ, Bool, List, [], ◌++◌, map, take, Result, Ok, Err, All}
use Rattle.std.specs.List.{Contains, flat_map}
use Rattle.sm_model.specs.declared.tag.Tag.{Tag}
use Rattle.sm_smil.specs.declared.raw_track.Form.{Form}
use Rattle.sm_smil.specs.declared.raw_track.RawTrack.{RawTrack}
use Rattle.sm_smil.specs.LiveFaults.{inner_faults, tracks_faults, text_faults}
use Rattle.sm_tag.specs.Elements.{bad_of}
use Rattle.sm_smil.specs.Placed.{placed, tracks_in, ended_tracks, open_tracks, place_behind, other_places}

-- the tracks of a text, each with whether its end tag stands there
abbrev pub all_tracks : Form → List Tag → List (RawTrack × Bool)
all_tracks form tags = tracks_in form (placed [] tags)

-- the first 64 of them that have ended, and those that haven't
abbrev pub whole_tracks : Form → List Tag → List RawTrack
whole_tracks form tags = ended_tracks (take 64 (all_tracks form tags))

abbrev pub cut_tracks : Form → List Tag → List RawTrack
cut_tracks form tags = open_tracks (take 64 (all_tracks form tags))

-- the places of all that is at fault in a text of that length with these tags: of what each track has in it, lacks or shares
-- with one before it, of another outermost element, of the 65th track, and of a tag at fault, or the length where no track is
abbrev pub faults : Form → ℕ → List Tag → List ℕ
faults form size tags =
    tracks_faults form [] (whole_tracks form tags)
    ++ (flat_map inner_faults (cut_tracks form tags)
    ++ (take 1 (other_places (placed [] tags))
    ++ (place_behind 64 (all_tracks form tags) ++ text_faults size (bad_of tags) (whole_tracks form tags))))

-- one of these places, and no other is less
pub record IsLeast (at : ℕ) (places : List ℕ) : Type 0 where
  pub there : Contains places at
  pub least : All (λ p. at ≤ p) places

-- the tracks where nothing is at fault, else the least place
abbrev pub IsRuled : {X : Type 0} → (RawTrack → X) → Form → ℕ → List Tag → Result (List X) ℕ → Type 0
IsRuled track form size tags (Ok xs) = (faults form size tags ≡ []) × (xs ≡ map track (whole_tracks form tags))
IsRuled track form size tags (Err at) = IsLeast at (faults form size tags)
