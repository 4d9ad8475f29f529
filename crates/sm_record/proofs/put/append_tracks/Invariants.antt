use Rattle.std.proofs.Common.{◌≡◌, ◌++◌, take}
use Rattle.std.specs.List.{flat_map, All}
use Rattle.sm_record.specs.Texts.{track_text}
use Rattle.sm_record.specs.Bodies.{FitsTrack}
use Rattle.sm_record.proofs.put.append_tracks.Given as goal

abbrev pub invariant-loop-track : goal.invariant-loop-track
invariant-loop-track l = (l.out.items ≡ l.initial.out.items ++ flat_map track_text (take l.track-index l.tracks)) × All FitsTrack (take l.track-index l.tracks)
