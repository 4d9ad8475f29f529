-- A text gives one answer as a live manifest, and has a reading as a ladder.
use Rattle.std.proofs.Common.{◌≡◌, ℕ, List, Result, length, refl}
use Rattle.sm_model.specs.declared.track.Track.{Track}
use Rattle.sm_smil.specs.declared.raw_track.Form.TheVariants.{Ladder}
use Rattle.sm_model.specs.declared.smil.SmilTrack.{SmilTrack}
use Rattle.sm_smil.specs.LiveTracks.{ladder_track}
use Rattle.sm_smil.specs.LiveWalk.{nothing_met, walk_tags}
use Rattle.sm_smil.specs.LiveManifests.{IsLiveManifest, IsLadder, fault_of, tracks_or_fault}
use Rattle.sm_smil.specs.LiveRead.{live_manifest}
use Rattle.sm_tag.specs.TagsRead.{tags_of}
use Rattle.sm_tag.proofs.TagTotals.{tags_total}
use Rattle.sm_smil.proofs.OneReading.{one_live_manifest}

pub some_answer : (text : List ℕ) → IsLiveManifest text (live_manifest text)
unfolding live_manifest
some_answer text = (tags_of text, tags_total text, refl)

pub one_answer : (text : List ℕ) (r : Result (List SmilTrack) ℕ) → IsLiveManifest text r → r ≡ live_manifest text
one_answer text r h = one_live_manifest text r (live_manifest text) h (some_answer text)

pub some_ladder : (text : List ℕ) → (r : Result (List Track) ℕ) × IsLadder text r
some_ladder text =
    (tracks_or_fault ladder_track (fault_of Ladder (length text) (tags_of text)) (walk_tags Ladder nothing_met (tags_of text)).done, (tags_of text, tags_total text, refl))
