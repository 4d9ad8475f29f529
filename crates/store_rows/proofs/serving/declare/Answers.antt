use Rattle.std.proofs.Common.{refl}
use Rattle.store_rows.proofs.serving.declare.Goals as goal

pub returns-else-not-is_valid-clause-known : goal.returns-else-not-is_valid-clause-known
returns-else-not-is_valid-clause-known c some =
    let run = c.requires.known refl in
    let step = c.declare.ensures.runs run.0 run.1 in
    (step.later, step.serves)
