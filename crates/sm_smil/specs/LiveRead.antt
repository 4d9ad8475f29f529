-- What a live manifest says, as a function of its text.
use Rattle.std.specs.Prelude.{ℕ, List, length, Result}
use Rattle.sm_model.specs.declared.smil.SmilTrack.{SmilTrack}
use Rattle.sm_smil.specs.declared.raw_track.Form.TheVariants.{Pushed}
use Rattle.sm_smil.specs.LiveTracks.{smil_track}
use Rattle.sm_smil.specs.LiveWalk.{nothing_met, walk_tags}
use Rattle.sm_smil.specs.LiveManifests.{fault_of, tracks_or_fault}
use Rattle.sm_tag.specs.TagsRead.{tags_of}

-- the tracks, or the least place of a fault
unfoldable pub live_manifest : List ℕ → Result (List SmilTrack) ℕ
live_manifest text = tracks_or_fault smil_track (fault_of Pushed (length text) (tags_of text)) (walk_tags Pushed nothing_met (tags_of text)).done
