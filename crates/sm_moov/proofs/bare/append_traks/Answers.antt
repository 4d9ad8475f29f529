use Rattle.std.proofs.Common.{rules, arith, ◌∙◌, ◌++◌, ap}
use Rattle.sm_model.specs.declared.track.Track.{Track}
use Rattle.sm_model.specs.MoovText.{bare_trak, numbered}
use Rattle.sm_moov.proofs.NumberedLemmas.{numbered-more}
use Rattle.sm_moov.proofs.bare.append_traks.Goals as goal

pub loop-track-init : goal.loop-track-init
unfolding numbered
loop-track-init c = search rules

pub loop-track-preserved : goal.loop-track-preserved
loop-track-preserved c = (
  omega arith,
  numbered-more bare_trak c.args.tracks.now c.loop-track.track-index c.loop-track.id c.track-item.result _ _ _ c.loop-track-test.true c.loop-track.invariant.0 c.loop-track.invariant.1
      (c.in_ok-append_trak.ensures ∙ ap (λ (t : Track). c.loop-track.out.items ++ bare_trak c.loop-track.id t) c.track-item.is),
)
