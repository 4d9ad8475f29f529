-- What canonical texts one behind another give.
use Rattle.std.specs.Prelude.{◌≡◌, ◌≢◌, ◌<◌, ◌^◌, ℕ, List, ◌++◌, Some, None, All, AllPairs, false}
use Rattle.std.specs.List.{flat_map, AllByRecursion}
use Rattle.sm_model.specs.declared.header.HeaderTrack.{HeaderTrack}
use Rattle.sm_model.specs.Canonical.{Canonical, text_of}
use Rattle.sm_model.specs.Fragments.{IsValid, IsNarrow}
use Rattle.sm_model.specs.Items.{Given, Frag}
use Rattle.sm_push.specs.Header.{track_with}
use Rattle.sm_push.specs.Body.{body, body_end}

-- the fragment of a text, with its track_ID
abbrev pub given_by : Canonical → Given
given_by c = Frag c.id c.fragment

-- a valid fragment of the track that this header names with the track_ID of the text
pub record IsOfHeader (tracks : List HeaderTrack) (c : Canonical) : Type 0 where
  pub id_fits : c.id < 2 ^ 32
  pub track : HeaderTrack
  pub named : track_with c.id tracks ≡ Some track
  pub stream : track.stream ≡ c.fragment.stream
  pub bitrate : track.bitrate ≡ c.fragment.bitrate
  pub valid : IsValid c.fragment
  pub samples : All IsNarrow c.fragment.samples

-- these texts one behind another, and in front of them what may end there, whose header names their tracks
pub record FollowsHeader (front b : List ℕ) (cs : List Canonical) : Type 0 where
  pub whole : body_end false front ≡ None
  pub each : AllByRecursion (IsOfHeader (body false front).header) cs
  pub text : b ≡ front ++ flat_map text_of cs

-- two tracks with a track_ID each
abbrev pub AreApart : HeaderTrack → HeaderTrack → Type 0
AreApart x y = x.id ≢ y.id

-- no two of these tracks share a track_ID
abbrev pub HaveIds : List HeaderTrack → Type 0
HaveIds tracks = AllPairs AreApart tracks
