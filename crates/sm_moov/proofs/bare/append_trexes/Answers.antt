use Rattle.std.proofs.Common.{rules, arith}
use Rattle.sm_model.specs.MoovText.{bare_trex, numbered}
use Rattle.sm_moov.proofs.NumberedLemmas.{numbered-more, first_track}
use Rattle.sm_moov.proofs.bare.append_trexes.Goals as goal

pub loop-track-init : goal.loop-track-init
unfolding numbered
loop-track-init c = search rules

pub loop-track-preserved : goal.loop-track-preserved
loop-track-preserved c = (
  omega arith,
  numbered-more (λ id t. bare_trex id) c.args.tracks.now c.loop-track._track-index c.loop-track.id (first_track c.args.tracks.now c.loop-track._track-index c.loop-track-test.true) _ _ _
      c.loop-track-test.true c.loop-track.invariant.0 c.loop-track.invariant.1 c.in_ok-append_trex.ensures,
)
