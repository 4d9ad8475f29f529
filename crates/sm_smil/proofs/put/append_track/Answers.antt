use Rattle.std.proofs.Common.{rules, append_assoc}
use Rattle.std.proofs.lemmas.Result.{IfOk-equal}
use Rattle.sm_smil.specs.LiveText.{track_lines}
use Rattle.sm_smil.proofs.put.append_track.Goals as goal

pub returns : goal.returns
unfolding track_lines
returns c = search (rules, IfOk-equal, append_assoc)
