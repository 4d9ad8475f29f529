-- The numbers of connections, and the sizes of pieces.
use Rattle.std.specs.Prelude.{◌≡◌, ℕ, ◌≤◌, ◌<◌, length}
use Rattle.sm_site.specs.declared.event.Event.{Event}
use Rattle.sm_site.specs.declared.event.Event.TheVariants.{Opened, Piece, Closed, Ended}

-- Each number that was given to a connection is below the first of these before the event and below the second after it.
abbrev pub Gives : Event → ℕ → ℕ → Type 0
Gives (Opened n) before now = (before ≤ n) × (n < now)
Gives (Piece n piece) before now = now ≡ before
Gives (Closed n) before now = now ≡ before
Gives Ended before now = now ≡ before

-- a piece has 1 to 65,536 bytes
abbrev pub IsSized : Event → Type 0
IsSized (Opened n) = Unit {0}
IsSized (Piece n piece) = (1 ≤ length piece) × (length piece ≤ 65536)
IsSized (Closed n) = Unit {0}
IsSized Ended = Unit {0}
