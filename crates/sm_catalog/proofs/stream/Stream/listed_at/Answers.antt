use Rattle.sm_log.specs.Times.{IsSpan}
use Rattle.sm_log.proofs.Entries.{some_has}
use Rattle.sm_catalog.proofs.stream.Stream.listed_at.Goals as goal

pub returns-clause-span : goal.returns-clause-span
returns-clause-span c = some_has IsSpan c.args.time c.self.inside.listed.entries c.get.result c.self.invariant.spans c.get.ensures
