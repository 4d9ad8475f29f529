-- Whose a piece is.
use Rattle.std.specs.Prelude.{◌≡◌, ℕ, List, length, take}
use Rattle.sm_real.specs.declared.peer.Peer.{Peer}
use Rattle.sm_real.specs.declared.sockets.Asked.{Asked}
use Rattle.sm_real.specs.declared.sockets.Asked.TheVariants.{Nothing, Opened, Piece, Left, NoMemory}
use Rattle.sm_real.specs.Numbers.{IsAt}

-- this holds of the number and the bytes of a piece
abbrev pub IfPiece : Asked → (ℕ → List ℕ → Type 0) → Type 0
IfPiece Nothing P = Unit {0}
IfPiece Opened P = Unit {0}
IfPiece (Piece n piece) P = P n piece
IfPiece (Left n) P = Unit {0}
IfPiece NoMemory P = Unit {0}

-- these bytes stand at the head of a buffer
abbrev pub IsHead : List ℕ → List ℕ → Type 0
IsHead buffer piece = piece ≡ take (length piece) buffer

-- a peer that is there has this number
pub record IsThere (number : ℕ) (peers : List Peer) : Type 0 where
  pub place : ℕ
  pub there : IsAt number place peers
