use Rattle.std.proofs.Common.{◌≡◌, ◌*◌}
use Rattle.sm_world.specs.Deeds.{deeds_in}
use Rattle.sm_world.specs.Rounds.{crashes, refusals, state_at}
use Rattle.sm_world.specs.Stages.{HasPushed}
use Rattle.sm_world.proofs.stage.Stage.rounds.Given as goal

abbrev pub invariant-loop-i : goal.invariant-loop-i
invariant-loop-i l = record {
  pushed : HasPushed l.fn.self l.self (deeds_in l.fn.self.header l.i l.number) (crashes l.i l.number) (refusals l.i l.number) (9 * l.i);
  state : l.draws.state ≡ state_at l.i l.number;
}
