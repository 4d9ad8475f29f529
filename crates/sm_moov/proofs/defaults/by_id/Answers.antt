use Rattle.std.proofs.Common.{rules, arith, length}
use Rattle.std.proofs.lemmas.Grind.{common_steps}
use Rattle.sm_moov.proofs.DefaultLemmas.{behind_all, put_before}
use Rattle.sm_moov.proofs.defaults.by_id.Goals as goal

pub loop-left-init : goal.loop-left-init
loop-left-init c = (search rules, λ id. let e = behind_all c.args.trexes.now (length c.args.trexes.now) id (search rules) in grind (arith, common_steps, e, c.new-map.ensures.empty))

pub loop-left-preserved : goal.loop-left-preserved
loop-left-preserved c =
    (omega arith, λ id. put_before c.args.trexes.now c.loop-left.left id _ _ _ (omega arith) (omega arith) (c.in_ok-insert.ensures.updates.0 id) (c.loop-left.invariant.1 id))
