-- The words of the shelf's contracts.
use Rattle.std.specs.Prelude.{◌≡◌, ◌+◌, ◌≤◌, [], ◌∷◌, ◌++◌, All, take, ℕ, Bool, false, List, length, Option, None, Some, slice_get}
use mathlib.Core.Option.{some}
use lib.ListN.{get_elem?}
use Rattle.atomic_table.specs.Seated.{TableId}
use Rattle.sm_model.specs.declared.entry.Entry.{Entry}
use Rattle.sm_model.specs.declared.entry.Entry.TheVariants as entry
use Rattle.sm_model.specs.declared.track.Track.{Track}
use Rattle.sm_log.specs.Digests.{Digest, Extends, digest_of}
use Rattle.sm_site.specs.Meanings.{Item}
use Rattle.sm_shelf.specs.declared.laid.Laid.{Laid}
use Rattle.sm_shelf.specs.Laying.{Op, Whole, Next, nothing, op_of, laid}
use Rattle.sm_shelf.specs.Past.{Publishing, publishing}

-- ---- operations

abbrev pub op_in : Laid → Op
op_in l = op_of l.what

abbrev pub applied : Digest → Laid → Digest
applied d l = laid d (op_in l)

-- ---- the rule

-- the value published goes on from each view; what a look, or a publishing, tells
abbrev pub KeepsBy : {D : Type 0} → (D → D → Type 0) → D → List D → Type 0
KeepsBy {D} extends x views = (seat : ℕ) (v : D) → get_elem? views seat ≡ some v → extends x v

abbrev pub SeesBy : {D : Type 0} → (D → D → Type 0) → D → D → D → D → Type 0
SeesBy extends v x y w = extends y v × (w ≡ y)

abbrev pub Keeps : Digest → List Digest → Type 0
Keeps = KeepsBy Extends

abbrev pub Sees : Digest → Digest → Digest → Digest → Type 0
Sees = SeesBy Extends

-- which table a shelf is: no two shelves share one
abbrev pub Table : Type 0
Table = TableId

-- what contracts see of a reader: which table it sits at, the digest that it has seen, and whether it is lost
pub record Sight : Type 0 where
  pub table : Table
  pub seen : Digest
  pub lost : Bool

-- what contracts see of the writer: which table its shelf is, what is published, what was laid behind it and waits, and all that was published so far
pub record Desk : Type 0 where
  pub table : Table
  pub published : Digest
  pub pending : List Op
  pub past : List Publishing

-- a shelf that was just made
abbrev pub bare : Table → Desk
bare table = record { table = table; published = nothing; pending = []; past = [] }

-- this is published on it next, and nothing waits behind it
abbrev pub shows_next : Desk → Option (List Item) → Digest → Desk
shows_next desk told d = record { table = desk.table; published = d; pending = []; past = desk.past ++ publishing told d ∷ [] }

-- one that was taken down: what waited was never published
abbrev pub shut : Desk → Desk
shut desk = record { table = desk.table; published = desk.published; pending = []; past = desk.past }

-- a reader of that table that has seen nothing
abbrev pub unread : Table → Sight
unread table = record { table = table; seen = nothing; lost = false }

-- ---- logs

-- how many entries of a log a digest stands for
abbrev pub height_by : Option (List Track) → ℕ → ℕ
height_by None n = 0
height_by (Some channel) n = n + 1

abbrev pub height_of : Digest → ℕ
height_of d = height_by d.channel (length d.adds)

-- the digest is that of a front of the log
abbrev pub IsFront : List Entry → Digest → Type 0
IsFront log d = (n : ℕ) × (n ≤ length log) × (d ≡ digest_of (take n log))

-- what is laid stands in the log
abbrev pub IsOf : List Entry → Op → Type 0
IsOf log (Whole all) = IsFront log all
IsOf log (Next place f) = slice_get log place ≡ Some (entry.Keep f)

-- what is published is the digest of a front of the log, and what is pending stands in it
abbrev pub Belongs : List Entry → Desk → Type 0
Belongs log desk = IsFront log desk.published × All (IsOf log) desk.pending
