use Rattle.sm_serve.proofs.Growing.{from_first}
use Rattle.sm_serve.proofs.Crashing.{image_holds}
use Rattle.sm_serve.proofs.shown.crashes_hold_what_was_shown.Goals as goal

pub returns : goal.returns
returns c first begin faults items steps point run t image fits =
    let real = c.logs_of_stores_are_real.ensures in
    image_holds real.store real.front c.what_is_held_stays.ensures first steps items t image
    (λ claim shown. c.what_was_shown_is_held.ensures first begin faults items steps point run t claim shown) (from_first first begin faults items steps point run t) fits
