use Rattle.sm_log.specs.Digests.{Digest}
use Rattle.sm_shelf.specs.Shown.{IsListingOf}
use Rattle.sm_shelf.proofs.Grows.{extends_refl}
use Rattle.sm_shelf.proofs.Steps.{turns, looked_on, looked_at}
use Rattle.sm_shelf.proofs.readers.list.Goals as goal

pub enter_as-requires : goal.enter_as-requires
enter_as-requires c x = turns _ _ x x (extends_refl x)

pub returns-in-Ok-clause-seen : goal.returns-in-Ok-clause-seen
returns-in-Ok-clause-seen c = looked_on _ _ _ _ c.in-Ok.ensures.1 c.leave.ensures.1

pub returns-in-Ok-clause-listing : goal.returns-in-Ok-clause-listing
returns-in-Ok-clause-listing c =
    looked_at (λ (d : Digest). IsListingOf d c.args.count c.list-listing.result) _ _ _ _ _ c.in-Ok.ensures.1 c.leave.ensures.1 c.get.ensures c.list-listing.ensures
