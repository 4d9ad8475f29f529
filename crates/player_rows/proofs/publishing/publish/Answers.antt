use Rattle.std.proofs.Common.{refl}
use Rattle.player_rows.proofs.publishing.publish.Goals as goal

pub serve-requires-clause-known : goal.serve-requires-clause-known
serve-requires-clause-known g c some =
    let machine = c.in-Ok.ensures.opens.opened in
    let run = c.in-Ok.ensures.begins machine.0 _ machine.2 refl in
    (run.0, run.6)
