use Rattle.std.proofs.Common.{rules, arith, refl}
use Rattle.std.proofs.lemmas.Grind.{common_steps}
use Rattle.sm_model.specs.Moov.{repeats}
use Rattle.sm_moov.proofs.RepeatLemmas.{twice-more}
use Rattle.std.proofs.lemmas.List.{map_more}
use Rattle.sm_moov.proofs.read.repeats.Goals as goal

pub loop-head-init : goal.loop-head-init
unfolding repeats
loop-head-init c = (λ id. grind (arith, common_steps, c.new-ids.ensures.empty), refl)

pub loop-head-preserved : goal.loop-head-preserved
loop-head-preserved c = (
  λ id. grind (arith, common_steps, c.loop-head.invariant.0 id),
  twice-more _ _ _ _ _ _ (map_more (λ h. h.id) c.args.heads.now c.loop-head.head-index _ (search rules)) c.loop-head.invariant.1 c.in_ok-twice.ensures.added (c.loop-head.invariant.0 _),
)
