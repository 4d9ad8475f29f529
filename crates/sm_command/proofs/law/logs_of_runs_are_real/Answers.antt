use Rattle.sm_serve.specs.Moments.{machine_at}
use Rattle.sm_serve.proofs.Growing.{below}
use Rattle.sm_command.proofs.Real.{real_front, real_now}
use Rattle.sm_command.proofs.law.logs_of_runs_are_real.Goals as goal

pub returns : goal.returns
returns g c first begin faults items steps point run o site stands some t =
    let real = c.logs_of_stores_are_real.ensures in
    real_front real.front (machine_at first steps t).log point.machine.log (below first begin faults items steps point run t)
    (real_now real.store real.front (g.S.Disk.seen.view site).contents (g.S.Disk.seen.may_leave site) point.machine some (g.met.S.Disk.contents_pass site)
    (λ image left. c.an_image_fits.ensures point.machine o site image stands left))
