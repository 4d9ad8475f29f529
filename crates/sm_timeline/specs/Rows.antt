-- What contracts see of a list with room.
use Rattle.std.specs.Prelude.{ℕ, List}

-- the list, and for how many more there is room
pub record RoomyList (X : Type 0) : Type 0 where
  pub list : List X
  pub room : ℕ
