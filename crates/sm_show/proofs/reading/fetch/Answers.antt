use Rattle.sm_show.proofs.Resting.{recalls_here}
use Rattle.sm_show.proofs.reading.fetch.Goals as goal

pub returns-in-Ok-None-clause-back : goal.returns-in-Ok-None-clause-back
returns-in-Ok-None-clause-back g c = record { recalls = recalls_here g.S.Disk.seen c.args.state.now c.args.site.now c.requires.stands; fault = λ is. absurd (cc) }
