-- What an event is in the transcript.
use Rattle.std.specs.Prelude.{ℕ, ◌<◌, All, List}
use Rattle.sm_site.specs.declared.event.Event.{Event}
use Rattle.sm_site.specs.declared.event.Event.TheVariants.{Opened, Piece, Closed, Ended}
use Rattle.sm_site.specs.Meanings.{Deal, Item}
use Rattle.sm_site.specs.Meanings.Deal.{Began, Came, Left, Over, Sent, Shut}

abbrev pub deal_of : Event → Deal
deal_of (Opened n) = Began n
deal_of (Piece n piece) = Came n piece
deal_of (Closed n) = Left n
deal_of Ended = Over

-- an opened connection has a number below this one
abbrev pub IsBelow : ℕ → Deal → Type 0
IsBelow n (Began k) = k < n
IsBelow n (Came k bytes) = Unit {0}
IsBelow n (Left k) = Unit {0}
IsBelow n Over = Unit {0}
IsBelow n (Sent k bytes failed) = Unit {0}
IsBelow n (Shut k) = Unit {0}

-- the number of a connection that is opened is above those of all before
abbrev pub IsNext : Event → List Item → Type 0
IsNext (Opened n) items = All (λ item. IsBelow n item.deal) items
IsNext (Piece n piece) items = Unit {0}
IsNext (Closed n) items = Unit {0}
IsNext Ended items = Unit {0}
