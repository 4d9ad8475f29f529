-- What adding the parts of a player leaves of a crew.
use Rattle.std.specs.Prelude.{◌≡◌}
use Rattle.sm_players.specs.declared.crew.Crew.{Crew}

-- the parts alone are others
pub record PartsAlone {R W F G : Type 0} (old new : Crew R W F G) : Type 0 where
  pub started : new.started ≡ old.started
  pub turns : new.turns ≡ old.turns
  pub faults : new.faults ≡ old.faults
  pub wired : new.wired ≡ old.wired
