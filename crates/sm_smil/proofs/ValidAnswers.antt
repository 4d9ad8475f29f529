-- What a text says as a live manifest is valid.
use Rattle.std.proofs.Common.{◌≡◌, ℕ, List, length, map, Option, Some, None, Ok, refl, subst}
use Rattle.sm_model.specs.declared.tag.Tag.{Tag}
use Rattle.sm_model.specs.declared.smil.SmilTrack.{SmilTrack}
use Rattle.sm_smil.specs.declared.raw_track.Form.TheVariants.{Pushed}
use Rattle.sm_model.specs.Channels.{IsSmil}
use Rattle.sm_smil.specs.LiveTracks.{smil_track}
use Rattle.sm_smil.specs.LiveWalk.{nothing_met, walk_tags}
use Rattle.sm_tag.specs.Elements.{bad_of}
use Rattle.sm_smil.specs.LiveManifests.{fault_of, tracks_or_fault, IsLiveManifest}
use Rattle.sm_smil.proofs.Valid.{faultless, is_smil}
use Rattle.sm_smil.proofs.WalkLemmas.{few_tracks}

judged_valid : (size : ℕ) (tags : List Tag) (fault : Option ℕ) (ts : List SmilTrack) → fault_of Pushed size tags ≡ fault → Ok ts ≡ tracks_or_fault smil_track fault (walk_tags Pushed nothing_met tags).done → IsSmil ts
judged_valid size tags (Some at) ts none e = absurd cc
judged_valid size tags None ts none e =
    let same : map smil_track (walk_tags Pushed nothing_met tags).done ≡ ts = cc in
    let good = faultless Pushed size (bad_of tags) (walk_tags Pushed nothing_met tags) none in
    subst IsSmil same (is_smil (walk_tags Pushed nothing_met tags).done good (few_tracks Pushed tags (walk_tags Pushed nothing_met tags) refl))

pub live_manifest_valid : (text : List ℕ) (ts : List SmilTrack) → IsLiveManifest text (Ok ts) → IsSmil ts
live_manifest_valid text ts h = judged_valid (length text) h.0 (fault_of Pushed (length text) h.0) ts refl h.2
