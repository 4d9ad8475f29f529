-- Scripts: the events that a link brings, one after the other, and then that there are no more.
use Rattle.std.specs.Prelude.{◌≡◌, ℕ, ◌+◌, max, Bool, true, false, ◌&&◌, nat_le, List, [], ◌∷◌, map, length}
use Rattle.sm_site.specs.declared.event.Event.{Event}
use Rattle.sm_site.specs.declared.event.Event.TheVariants.{Opened, Piece, Closed, Ended}
use Rattle.sm_site.specs.Meanings.{Deal}
use Rattle.sm_site.specs.Meanings.Deal.{Began, Came, Left, Over, Sent, Shut}
use Rattle.sm_site.specs.Event.{deal_of}

-- No end stands in a script, the numbers of its connections rise from a number on, and a piece has 1 to 65,536 bytes.
abbrev pub is_script : ℕ → List Event → Bool
is_script from [] = true
is_script from (Opened n ∷ events) = nat_le from n && is_script (n + 1) events
is_script from (Piece n piece ∷ events) = (nat_le 1 (length piece) && nat_le (length piece) 65536) && is_script from events
is_script from (Closed n ∷ events) = is_script from events
is_script from (Ended ∷ events) = false

-- a script in the words of a transcript
abbrev pub deals_of : List Event → List Deal
deals_of events = map deal_of events

-- what is taken is the first of the script, and behind the script the end is taken
abbrev pub Takes : Deal → List Deal → List Deal → Type 0
Takes deal [] rest = (deal ≡ Over) × (rest ≡ [])
Takes deal (first ∷ deals) rest = (deal ≡ first) × (rest ≡ deals)

-- one more than the greatest number that was given, and a first number at least
abbrev pub number_after : ℕ → Deal → ℕ
number_after from (Began n) = max from (n + 1)
number_after from (Came n bytes) = from
number_after from (Left n) = from
number_after from Over = from
number_after from (Sent n bytes failed) = from
number_after from (Shut n) = from

abbrev pub numbers_after : ℕ → List Deal → ℕ
numbers_after from [] = from
numbers_after from (deal ∷ deals) = numbers_after (number_after from deal) deals

-- the same of events
abbrev pub IsTaken : Event → List Event → List Event → Type 0
IsTaken event [] rest = (event ≡ Ended) × (rest ≡ [])
IsTaken event (first ∷ events) rest = (event ≡ first) × (rest ≡ events)
