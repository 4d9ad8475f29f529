use Rattle.std.proofs.Common.{ap}
use Rattle.sm_players.specs.Wiring.{Wires}
use Rattle.sm_tool.proofs.Idling.{idle_stores}
use Rattle.sm_words.specs.Orders.{serving_of}
use Rattle.sm_run.proofs.Ending.{unshown_means}
use Rattle.sm_run.proofs.command.show.Goals as goal

pub returns-in_default-clause-stores : goal.returns-in_default-clause-stores
returns-in_default-clause-stores g c = idle_stores g.S.Disk.seen g.met.S.Disk.no_later g.met.S.Disk.at_now c.args.site.now _

pub returns-in-Err-clause-means : goal.returns-in-Err-clause-means
returns-in-Err-clause-means g c =
    unshown_means g.S.Disk.seen (serving_of c.args.order) c.args.players _ _ _ c.args.site.now c.show_store.new.site _ _ c.in-Err.fault c.unshown.result
    (ap (λ b. let w : Wires = record { port = c.args.order.port; players = c.args.players; bind = b } in w) c.in-Ok.ensures) c.in-Err.ensures.why c.unshown.ensures c.in-Err.ensures.chosen
