use Rattle.std.proofs.Common.{refl}
use Rattle.store_rows.proofs.serving.play.Goals as goal

pub run-requires-clause-known : goal.run-requires-clause-known
run-requires-clause-known c some =
    let machine = c.in-Ok.ensures.opens.opened in
    let run = c.in-Ok.ensures.begins machine.0 _ machine.2 refl in
    (run.0, run.6)
