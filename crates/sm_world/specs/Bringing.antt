-- What events bring on a connection.
use Rattle.std.specs.Prelude.{◌≡◌, ℕ, ◌+◌, ◌≤◌, ◌==◌, List, [], ◌∷◌, ◌++◌, if◌then◌else◌, IsTrue}
use Rattle.sm_site.specs.declared.event.Event.{Event}
use Rattle.sm_site.specs.declared.event.Event.TheVariants.{Opened, Piece, Closed, Ended}
use Rattle.sm_site.specs.Meanings.{Deal}
use Rattle.sm_site.specs.Meanings.Deal.{Began, Came, Left, Over, Sent, Shut}
use Rattle.sm_site.specs.Scripts.{is_script}

-- the bytes that an event brings on a connection
abbrev pub brought_by : ℕ → Event → List ℕ
brought_by conn (Opened n) = []
brought_by conn (Piece n piece) = if n == conn then piece else []
brought_by conn (Closed n) = []
brought_by conn Ended = []

abbrev pub brought : ℕ → List Event → List ℕ
brought conn [] = []
brought conn (event ∷ events) = brought_by conn event ++ brought conn events

-- The connection is opened and brings these bytes, and nothing else happens. Such events may stand in a script behind smaller numbers.
pub record Brings (conn : ℕ) (bytes : List ℕ) (events : List Event) : Type 0 where
  pub rest : List Event
  pub opens : events ≡ Opened conn ∷ rest
  pub all : brought conn rest ≡ bytes
  pub fits : (from : ℕ) → from ≤ conn → IsTrue (is_script from events)

-- how often a connection begins
abbrev pub begun_by : ℕ → Deal → ℕ
begun_by conn (Began n) = if n == conn then 1 else 0
begun_by conn (Came n bytes) = 0
begun_by conn (Left n) = 0
begun_by conn Over = 0
begun_by conn (Sent n bytes failed) = 0
begun_by conn (Shut n) = 0

abbrev pub begun : ℕ → List Deal → ℕ
begun conn [] = 0
begun conn (deal ∷ deals) = begun_by conn deal + begun conn deals
