-- The tracks of a live manifest, by where its elements stand.
use Rattle.std.specs.Prelude.{ℕ, zero, suc, ◌-◌, ◌==◌, ◌&&◌, Bool, true, false, List, [], ◌∷◌, ◌++◌, length, take, Option, Some, None, if◌then◌else◌, codes}
use Rattle.sm_model.specs.declared.tag.Attribute.{Attribute}
use Rattle.sm_model.specs.declared.tag.Tag.{Tag}
use Rattle.sm_model.specs.declared.tag.Tag.TheVariants.{Start, Finish, Text, End, Bad}
use Rattle.sm_model.specs.declared.track.Kind.{Kind}
use Rattle.sm_smil.specs.declared.raw_track.Form.{Form}
use Rattle.sm_smil.specs.declared.raw_track.RawTrack.{RawTrack}
use Rattle.sm_model.specs.Same.{is_same}
use Rattle.sm_tag.specs.Elements.{attribute_of}
use Rattle.sm_smil.specs.LiveWalk.{track_kind, with_element}

-- a tag, and the names of the elements that it stands in, from the outermost on; an end tag stands in the element that it ends
pub record Placed : Type 0 where
  pub ancestors : List (List ℕ)
  pub tag : Tag

-- what stands behind a tag stands in these
abbrev pub behind_tag : List (List ℕ) → Tag → List (List ℕ)
behind_tag names (Start name attributes empty at) = if empty then names else names ++ name ∷ []
behind_tag names (Finish name at) = take (length names - 1) names
behind_tag names (Text at) = names
behind_tag names End = names
behind_tag names (Bad at) = names

abbrev pub placed : List (List ℕ) → List Tag → List Placed
placed names [] = []
placed names (t ∷ ts) = record { ancestors = names; tag = t } ∷ placed (behind_tag names t) ts

-- ---- tracks

-- a track as its start tag says it
abbrev pub started : Kind → List Attribute → ℕ → RawTrack
started k attributes at = record { kind = k; at = at; bitrate = attribute_of (codes "systemBitrate") attributes; params = []; again = None }

-- a param among the children of a track, which stands in three elements
abbrev pub with_child : Form → RawTrack → List (List ℕ) → Tag → RawTrack
with_child form t ancestors (Start name attributes empty at) =
    if length ancestors == 4 && is_same name (codes "param") then with_element form attributes at t else t
with_child form t ancestors (Finish name at) = t
with_child form t ancestors (Text at) = t
with_child form t ancestors End = t
with_child form t ancestors (Bad at) = t

-- the end tag of an element that stands in three
abbrev pub ends_track : List (List ℕ) → Tag → Bool
ends_track ancestors (Finish name at) = length ancestors == 4
ends_track ancestors (Start name attributes empty at) = false
ends_track ancestors (Text at) = false
ends_track ancestors End = false
ends_track ancestors (Bad at) = false

-- a track with its params, by what stands behind its start tag, and whether its end tag stands there
abbrev pub holding : Form → RawTrack → List Placed → RawTrack × Bool
holding form t [] = (t, false)
holding form t (p ∷ ps) = if ends_track p.ancestors p.tag then (t, true) else holding form (with_child form t p.ancestors p.tag) ps

-- the track that an element is, if it is one
abbrev pub track_from : Form → Option Kind → List Attribute → ℕ → Bool → List Placed → List (RawTrack × Bool)
track_from form None attributes at empty ps = []
track_from form (Some k) attributes at empty ps =
    (if empty then (started k attributes at, true) else holding form (started k attributes at) ps) ∷ []

-- each video, audio and textstream that stands in smil, body and switch is one
abbrev pub track_at : Form → List (List ℕ) → Tag → List Placed → List (RawTrack × Bool)
track_at form ancestors (Start name attributes empty at) ps = track_from form (track_kind ancestors name) attributes at empty ps
track_at form ancestors (Finish name at) ps = []
track_at form ancestors (Text at) ps = []
track_at form ancestors End ps = []
track_at form ancestors (Bad at) ps = []

-- the tracks of a text in order, each with whether its end tag stands there
abbrev pub tracks_in : Form → List Placed → List (RawTrack × Bool)
tracks_in form [] = []
tracks_in form (p ∷ ps) = track_at form p.ancestors p.tag ps ++ tracks_in form ps

-- those that have ended, and those that haven't
abbrev pub ended_tracks : List (RawTrack × Bool) → List RawTrack
ended_tracks [] = []
ended_tracks (x ∷ xs) = if x.1 then x.0 ∷ ended_tracks xs else ended_tracks xs

abbrev pub open_tracks : List (RawTrack × Bool) → List RawTrack
open_tracks [] = []
open_tracks (x ∷ xs) = if x.1 then open_tracks xs else x.0 ∷ open_tracks xs

-- the place of the first track behind so many
abbrev pub place_behind : ℕ → List (RawTrack × Bool) → List ℕ
place_behind n [] = []
place_behind zero (x ∷ xs) = x.0.at ∷ []
place_behind (suc n) (x ∷ xs) = place_behind n xs

-- ---- outermost elements

abbrev pub other_place : List (List ℕ) → Tag → List ℕ
other_place ancestors (Start name attributes empty at) = if length ancestors == 0 then (if is_same name (codes "smil") then [] else at ∷ []) else []
other_place ancestors (Finish name at) = []
other_place ancestors (Text at) = []
other_place ancestors End = []
other_place ancestors (Bad at) = []

-- the places of elements that stand in no other and aren't smil
abbrev pub other_places : List Placed → List ℕ
other_places [] = []
other_places (p ∷ ps) = other_place p.ancestors p.tag ++ other_places ps
