use Rattle.std.proofs.Common.{◌≡◌, ◌+◌, ◌*◌, ℕ, suc, arith, subst}
use Rattle.sm_world.specs.Deeds.{deeds_in}
use Rattle.sm_world.specs.Rounds.{crashes, refusals, state_at}
use Rattle.sm_world.specs.Stages.{HasPushed}
use Rattle.sm_world.proofs.Staging.{few_refusals, round_more, state_more}
use Rattle.sm_world.proofs.stage.Stage.rounds.Goals as goal

pub round-requires-clause-refused : goal.round-requires-clause-refused
round-requires-clause-refused c =
    let is = c.loop-i.invariant.pushed.refused_is in
    let few = few_refusals c.loop-i.i c.args.number in
    let end = c.loop-i-test.true in
    omega (arith, is, few, end, c.requires.few, c.requires.none_refused)

pub loop-i-preserved : goal.loop-i-preserved
loop-i-preserved c =
    let i = c.loop-i.i in
    let x = c.args.number in
    let more : suc i ≡ i + 1 = omega arith in
    let inv = c.loop-i.invariant in
    record {
      pushed = subst (λ (n : ℕ). HasPushed c.args.self.now c.round.new.self (deeds_in c.args.self.now.header n x) (crashes n x) (refusals n x) (9 * n)) more
          (round_more c.args.self.now c.loop-i.self c.round.new.self i x c.loop-i.draws.state inv.state inv.pushed c.in_ok-round.ensures.pushed);
      state = subst (λ (n : ℕ). c.round.new.draws.state ≡ state_at n x) more (state_more i x c.loop-i.draws.state c.round.new.draws.state inv.state c.in_ok-round.ensures.drawn);
    }
