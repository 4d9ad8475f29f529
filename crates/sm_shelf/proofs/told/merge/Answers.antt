use Rattle.sm_shelf.proofs.Grows.{extends_refl}
use Rattle.sm_shelf.proofs.Steps.{turns}
use Rattle.sm_shelf.proofs.told.merge.Goals as goal

pub enter_as-requires : goal.enter_as-requires
enter_as-requires c x = turns _ _ x x (extends_refl x)

pub enter_as-requires-2 : goal.enter_as-requires-2
enter_as-requires-2 c x = turns _ _ x x (extends_refl x)
