use Rattle.std.proofs.Common.{refl}
use Rattle.sm_world.specs.Rounds.{drawn, stirred}
use Rattle.sm_world.specs.declared.kind.Kind.TheVariants.{Known, Clash, Overlap, Same, Alone}
use Rattle.sm_world.proofs.Staging.{silent_a}
use Rattle.sm_world.proofs.stage.Stage.begin.Goals as goal

pub returns-in-Known-clause-pushed : goal.returns-in-Known-clause-pushed
returns-in-Known-clause-pushed c = silent_a c.args.self.now c.args.kind Known c.args.body.now (drawn (stirred c.args.draws.now.state)) 0 refl c.in-Known.is refl refl

pub returns-in-Clash-clause-pushed : goal.returns-in-Clash-clause-pushed
returns-in-Clash-clause-pushed c = silent_a c.args.self.now c.args.kind Clash c.args.body.now (drawn (stirred c.args.draws.now.state)) 0 refl c.in-Clash.is refl refl

pub returns-in-Overlap-clause-pushed : goal.returns-in-Overlap-clause-pushed
returns-in-Overlap-clause-pushed c = silent_a c.args.self.now c.args.kind Overlap c.args.body.now (drawn (stirred c.args.draws.now.state)) 0 refl c.in-Overlap.is refl refl

pub returns-in-Same-clause-pushed : goal.returns-in-Same-clause-pushed
returns-in-Same-clause-pushed c = silent_a c.args.self.now c.args.kind Same c.args.body.now (drawn (stirred c.args.draws.now.state)) 0 refl c.in-Same.is refl refl

pub returns-in-Alone-clause-pushed : goal.returns-in-Alone-clause-pushed
returns-in-Alone-clause-pushed c = silent_a c.args.self.now c.args.kind Alone c.args.body.now (drawn (stirred c.args.draws.now.state)) 0 refl c.in-Alone.is refl refl
