-- What a connection stands for.
use Rattle.std.specs.Prelude.{◌≡◌, ℕ, ◌+◌, ◌-◌, ◌*◌, ◌<◌, ◌≤◌, List, [], ◌∷◌, ◌++◌, length, drop, map, Option, Some, None}
use Rattle.std.specs.List.{flat_map}
use Rattle.sm_conn.specs.declared.conn.Conn.{Conn}
use Rattle.sm_conn.specs.declared.conn.State.{State}
use Rattle.sm_conn.specs.declared.conn.State.TheVariants.{Head, Body, Closed}
use Rattle.sm_conn.specs.declared.part.Part.{Part}
use Rattle.sm_conn.specs.declared.part.Part.TheVariants as part
use Rattle.sm_conn.specs.Parts.{PartItem, got, posted, continued, byte, ended, bad, Mode, in_head, in_body, closed, Reads}

-- where the connection stands
abbrev pub mode_from : State → List ℕ → Mode
mode_from Head kept = in_head kept
mode_from (Body framer close) kept = in_body framer.place close
mode_from Closed kept = closed

abbrev pub mode_of : Conn → Mode
mode_of conn = mode_from conn.state conn.kept.items

-- the items of a part: each byte of a body is one
abbrev pub items_of : Part → List PartItem
items_of (part.Get target close) = got target close ∷ []
items_of part.Post = posted ∷ []
items_of part.Continue = continued ∷ []
items_of (part.Body bytes) = map (λ b. byte b) bytes
items_of (part.End close) = ended close ∷ []
items_of (part.Bad cause) = bad cause ∷ []

-- the items of the parts, joined
abbrev pub joined : List Part → List PartItem
joined parts = flat_map items_of parts

-- the connection was given these bytes, and gave these items
abbrev pub StandsFor : Conn → List ℕ → List PartItem → Type 0
StandsFor conn bytes items = Reads (in_head []) bytes items (mode_of conn)

-- where the connection stands with no byte kept
abbrev pub mode_at : State → Mode
mode_at state = mode_from state []

-- a body is nearer to its end than a head
abbrev pub rank : State → ℕ
rank Head = 0
rank (Body framer close) = 1
rank Closed = 0

-- one act read all the bytes, or so many of them, and gave further items
abbrev pub ActGives : State → List ℕ → List PartItem → Option ℕ → Conn → List PartItem → Type 0
ActGives old bytes before None new after = (added : List PartItem) × (after ≡ before ++ added) × Reads (mode_at old) bytes added (mode_of new)
ActGives old bytes before (Some used) new after =
    (used ≤ length bytes) × (rank new.state + 2 * (length bytes - used) < rank old + 2 * length bytes)
    × (added : List PartItem) × (after ≡ before ++ added)
    × ((items : List PartItem) (last : Mode) → Reads (mode_at new.state) (drop used bytes) items last → Reads (mode_at old) bytes (added ++ items) last)
