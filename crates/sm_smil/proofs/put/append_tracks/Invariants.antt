use Rattle.std.proofs.Common.{◌≡◌, ◌+◌, ◌++◌, drop}
use Rattle.sm_smil.specs.LiveText.{tracks_lines}
use Rattle.sm_smil.proofs.put.append_tracks.Given as goal

abbrev pub invariant-loop-t : goal.invariant-loop-t
invariant-loop-t l = record {
  id : l.id ≡ l.t-index + 1;
  text : l.out.items ++ tracks_lines l.id (drop l.t-index l.tracks) ≡ l.initial.out.items ++ tracks_lines 1 l.tracks;
}
