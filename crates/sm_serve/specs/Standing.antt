-- A run so far, on a site.
use Rattle.std.specs.Prelude.{◌≡◌, ◌≢◌, ℕ, ◌+◌, ◌-◌, ◌<◌, ◌≤◌, ◌^◌, Bool, true, false, List, [], ◌∷◌, ◌++◌, Option, Some, None, is_some, if◌then◌else◌, IsTrue}
use Rattle.sm_site.specs.Image.{Image}
use Rattle.sm_site.specs.Meanings.{View, Item, Deal, DiskCall, Seen}
use Rattle.sm_site.specs.Clauses.{Both}
use Rattle.sm_wire.specs.declared.item.WireItem.{WireItem}
use Rattle.sm_origin.specs.declared.origin.Origin.{Origin}
use Rattle.sm_reply.specs.declared.reply.Counted.{Counted}
use Rattle.sm_origin.specs.Machine.{Machine}
use Rattle.sm_origin.specs.Stores.{Fits}
pub use Rattle.sm_origin.specs.Acting.{StandsOn, StandsForSome}
use Rattle.sm_serve.specs.Connections.{received, live, without, deals_in}
use Rattle.sm_serve.specs.Run.{Counts, counts_after, Phase, Point, Stepped, Moves, at, ladders, Run, LeadsTo}
use Rattle.sm_serve.specs.Moments.{machine_at, FitsAt}
use Rattle.sm_serve.specs.declared.still.Still.{Still}
use Rattle.sm_serve.specs.declared.still.Still.TheVariants.{Open, Closed}

-- the machine found at the start and its moment, the transcript before it, what the site told then, and what has happened since
pub record History : Type 0 where
  pub first : Machine
  pub begin : ℕ
  pub base : List Item
  pub found : View
  pub items : List Item
  pub steps : List Stepped
  pub point : Point

-- the disk calls of steps
abbrev pub calls_of : List Stepped → List DiskCall
calls_of [] = []
calls_of (x ∷ steps) = x.calls ++ calls_of steps

-- whether the site tells the contents of its disk
abbrev pub is_told : View → Bool
is_told v = is_some v.contents

-- The site tells this run. What a crash may leave, now and at each moment since the start, fits it.
pub record Keeps {D : Type 0} (site : Seen D) (h : History) (d : D) : Type 0 where
  pub run : Run (is_told (site.view d)) h.first h.begin h.found.disk_faults h.items h.steps h.point
  pub told : (site.view d).transcript ≡ Some (h.base ++ h.items)
  pub clock : IsTrue (is_told (site.view d)) → h.point.ended ≤ (site.view d).moment
  pub current : IsTrue (is_told (site.view d)) → (t : ℕ) → h.point.ended ≤ t → machine_at h.first h.steps t ≡ h.point.machine
  pub now : (image : Image) → site.may_leave d image → Fits h.point.machine image
  pub images : (t : ℕ) (image : Image) → h.begin ≤ t → site.left_at d t image → FitsAt h.first h.steps t image
  -- the record of disk calls, where it is told, is what it was at the start and behind that those of the steps
  pub recorded : Both h.found.calls (site.view d).calls (λ before now. now ≡ before ++ calls_of h.steps)
  -- each send that failed since was counted
  pub blamed : (site.view d).send_faults < 2 ^ 64 - 1 → h.found.send_faults + h.point.failed ≤ (site.view d).send_faults
  -- the disk's count of faults is the run's
  pub counted : h.point.faults ≡ (site.view d).disk_faults
  -- the disk tells its contents where it did at the start
  pub still_told : is_told (site.view d) ≡ is_told h.found

-- the history with further entries, at a point
abbrev pub moved : History → List Item → Point → History
moved h es q = record h { items = h.items ++ es; point = q }

-- An event was taken, and the run goes on from it.
abbrev pub Pending : {D : Type 0} (site : Seen D) → History → ℕ → Deal → D
    → Type 0
Pending site h m deal d =
    (q : Point) → Moves (is_told (site.view d)) h.items h.point (at m deal) [] q → q.machine ≡ h.point.machine → q.ended ≡ m → q.failed ≡ h.point.failed
    → q.faults ≡ h.point.faults → Keeps site (moved h (at m deal) q) d

-- A later history goes on from an earlier one: its entries and its steps begin with those of that one, and moves lead from its point on.
pub record GoesOn (h k : History) : Type 0 where
  pub entries : List Item
  pub items : k.items ≡ h.items ++ entries
  pub further : List Stepped
  pub steps : k.steps ≡ h.steps ++ further
  pub path : LeadsTo h.items h.steps h.point k.items k.steps k.point

-- A later history, in which one connection alone went on, and is still open or was closed. No ladder was declared in it.
pub record Follows (n : ℕ) (is_open : Bool) (h k : History) : Type 0 where
  pub first : k.first ≡ h.first
  pub begin : k.begin ≡ h.begin
  pub base : k.base ≡ h.base
  pub found : k.found ≡ h.found
  pub on : GoesOn h k
  pub received : (j : ℕ) → received j k.items ≡ received j h.items
  pub deals : deals_in k.items ≡ deals_in h.items
  pub live : live k.items ≡ (if is_open then live h.items else without n (live h.items))
  pub counts : (j : ℕ) → j ≢ n → k.point.counts j ≡ h.point.counts j
  pub no_ladder : ladders k.steps ≡ ladders h.steps

abbrev pub stays_open : Still → Bool
stays_open Open = true
stays_open Closed = false

-- The run reaches this phase, with these counts of the connection if it is open.
pub record Reaches {D : Type 0} (site : Seen D) (h : History) (n : ℕ) (is_open : Bool)
    (phase : Phase) (counts : Counts)
    (origin : Origin) (d : D) : Type 0 where
  pub later : History
  pub keeps : Keeps site later d
  pub stands : StandsOn site later.point.machine origin d
  pub follows : Follows n is_open h later
  pub phase_is : later.point.phase ≡ phase
  pub counts_are : IsTrue is_open → later.point.counts n ≡ counts

-- the counts behind an item, where the connection is still open
abbrev pub counts_with : WireItem → Option Counted → Counts → Counts
counts_with item None counts = counts
counts_with item (Some c) counts = counts_after item c counts
