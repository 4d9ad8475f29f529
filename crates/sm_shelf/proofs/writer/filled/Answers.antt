use Rattle.sm_shelf.proofs.Places.{end_trims}
use Rattle.sm_shelf.proofs.writer.filled.Goals as goal

pub over-requires-clause-within : goal.over-requires-clause-within
over-requires-clause-within c =
    (end_trims c.args.catalog.now.adds c.in_ok-copy.field-0.adds c.args.fragments.now c.in_ok-window.window c.requires.last c.requires.within c.in_ok-copy.ensures.adds c.in_ok-window.ensures).0

pub over-requires-clause-last : goal.over-requires-clause-last
over-requires-clause-last c =
    (end_trims c.args.catalog.now.adds c.in_ok-copy.field-0.adds c.args.fragments.now c.in_ok-window.window c.requires.last c.requires.within c.in_ok-copy.ensures.adds c.in_ok-window.ensures).1
