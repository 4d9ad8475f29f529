use Rattle.sm_serve.proofs.Events.{begun}
use Rattle.sm_serve.proofs.state.State.start.Goals as goal

pub returns-clause-begins : goal.returns-clause-begins
returns-clause-begins g c =
    begun g.S.Disk.seen g.met.S.Disk.no_later g.met.S.Disk.at_now c.an_image_fits.ensures _ _ c.new.ensures.items
