-- What a visit of a peer finds.
use Rattle.std.specs.Prelude.{ℕ, ◌≤◌, length}
use Rattle.sm_real.specs.declared.peer.Found.{Found}
use Rattle.sm_real.specs.declared.peer.Found.TheVariants.{Nothing, Bytes, Left, Gone}
use Rattle.sm_real.specs.declared.sockets.Asked.{Asked}
use Rattle.sm_real.specs.declared.sockets.Asked.TheVariants.{Nothing as AskedNothing, Opened, Piece, Left as AskedLeft, NoMemory}

-- the bytes found are at least one, and no more than the buffer has
abbrev pub FitsIn : ℕ → Found → Type 0
FitsIn room Nothing = Unit {0}
FitsIn room (Bytes n) = (1 ≤ n) × (n ≤ room)
FitsIn room Left = Unit {0}
FitsIn room Gone = Unit {0}

-- a piece has 1 to 65,536 bytes
abbrev pub IsPiece : Asked → Type 0
IsPiece AskedNothing = Unit {0}
IsPiece Opened = Unit {0}
IsPiece (Piece n piece) = (1 ≤ length piece) × (length piece ≤ 65536)
IsPiece (AskedLeft n) = Unit {0}
IsPiece NoMemory = Unit {0}
