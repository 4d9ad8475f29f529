use Rattle.std.proofs.lemmas.Result.{IfOk-equal}
use Rattle.sm_manout.specs.ManifestText.{stream_lines}
use Rattle.sm_manout.proofs.Joined.{four}
use Rattle.sm_manout.proofs.stream.put_stream.Goals as goal

pub returns : goal.returns
unfolding stream_lines
returns c =
    IfOk-equal c.put.result _ _ _ c.put.ensures (rw (c.in_ok-put_times.ensures, c.in_ok-put_levels.ensures, c.in_ok-put_opening.ensures, c.count_tracks-levels.ensures, c.as_bytes.ensures.same, c.as_bytes-2.ensures.same)
    (four c.args.out.now.items _ _ _ _))
