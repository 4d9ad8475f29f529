-- What a call that appends leaves where memory ran out.
use Rattle.std.specs.Prelude.{◌≡◌, ℕ, List, ◌++◌}

-- the old bytes stay in front of the new ones
pub record StaysInFront (old new : List ℕ) : Type 0 where
  pub behind : List ℕ
  pub joined : new ≡ old ++ behind
