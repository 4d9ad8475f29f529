use Rattle.std.proofs.Common.{◌∙◌, arith}
use Rattle.sm_smil.proofs.Least.{note_more}
use Rattle.sm_smil.proofs.judge.note_tracks.Goals as goal

pub loop-i-preserved : goal.loop-i-preserved
loop-i-preserved c =
    rw c.note_track.ensures (note_more c.args.form c.loop-i.fault c.args.tracks.now c.loop-i.i _ (omega arith) c.index-tracks-i.is ∙ c.loop-i.invariant)
