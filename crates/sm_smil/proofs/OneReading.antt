-- A text has one reading as a live manifest, and one as a ladder.
use Rattle.std.proofs.Common.{◌≡◌, ℕ, List, Result, sym, ◌∙◌, length, ap}
use Rattle.sm_model.specs.declared.tag.Tag.{Tag}
use Rattle.sm_model.specs.declared.track.Track.{Track}
use Rattle.sm_model.specs.declared.smil.SmilTrack.{SmilTrack}
use Rattle.sm_smil.specs.declared.raw_track.Form.TheVariants.{Pushed, Ladder}
use Rattle.sm_smil.specs.LiveTracks.{smil_track, ladder_track}
use Rattle.sm_smil.specs.LiveWalk.{nothing_met, walk_tags}
use Rattle.sm_smil.specs.LiveManifests.{fault_of, tracks_or_fault, IsLiveManifest, IsLadder}
use Rattle.sm_tag.proofs.Unique.{Runs-unique}

pub one_live_manifest : (text : List ℕ) (r s : Result (List SmilTrack) ℕ) → IsLiveManifest text r → IsLiveManifest text s → r ≡ s
one_live_manifest text r s (tags, reads, says) (others, too, says_too) =
    says ∙ (ap (λ (l : List Tag). tracks_or_fault smil_track (fault_of Pushed (length text) l) (walk_tags Pushed nothing_met l).done) (Runs-unique reads too) ∙ sym says_too)

pub one_ladder : (text : List ℕ) (r s : Result (List Track) ℕ) → IsLadder text r → IsLadder text s → r ≡ s
one_ladder text r s (tags, reads, says) (others, too, says_too) =
    says ∙ (ap (λ (l : List Tag). tracks_or_fault ladder_track (fault_of Ladder (length text) l) (walk_tags Ladder nothing_met l).done) (Runs-unique reads too) ∙ sym says_too)
