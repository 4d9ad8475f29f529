-- A site in memory, as its own clauses speak of it.
use Rattle.std.specs.Prelude.{◌≡◌, ℕ, Bool, true, false, List, drop}
use Rattle.sm_site.specs.declared.memory.MemorySite.{MemorySite}
use Rattle.sm_site.specs.Image.{Image, WritesAt}
use Rattle.sm_site.specs.Meanings.{Deal, Item, Seen, View}
use Rattle.sm_site.specs.Scripts.{deals_of}
use Rattle.sm_site.specs.Faults.{Faults}
use Rattle.sm_site.specs.Past.{State, after, chosen, start, view_of, IsOutcome, LeftAt, numbers_of, openings_of}

-- what is still to come
abbrev pub coming : MemorySite → List Deal
coming m = deals_of (drop m.taken m.script.items)

abbrev pub site_view : MemorySite → View
site_view m = view_of m.first.items m.past.items (coming m) m.reads m.disk_faults m.link_faults m.send_faults m.selected

-- its contents, what is on its disk, and what is pending
abbrev pub state_of : MemorySite → State
state_of m = after (start m.first.items) m.past.items

abbrev pub site_may_leave : MemorySite → Image → Type 0
site_may_leave m c = IsOutcome (state_of m) c

abbrev pub site_left_at : MemorySite → ℕ → Image → Type 0
site_left_at m t c = LeftAt m.first.items m.past.items t c

abbrev pub site_seen : Seen MemorySite
site_seen = record { view = site_view; may_leave = site_may_leave; left_at = site_left_at }

-- the image that a crash of this choice would leave
abbrev pub site_left_by : MemorySite → ℕ → Image
site_left_by m choice = chosen choice (state_of m)

abbrev pub site_numbers : MemorySite → ℕ
site_numbers m = numbers_of m.past.items

abbrev pub site_openings : MemorySite → List (List Item)
site_openings m = openings_of m.past.items

abbrev pub faults_of : MemorySite → Faults
faults_of m = record {
  disk_failing = m.disk_failing;
  disk_calls = m.disk_calls;
  link_failing = m.link_failing;
  link_calls = m.link_calls;
  reaches = m.reaches;
  stop = m.stop;
  starved = m.starved;
}

-- what a failed write makes of the contents: it reaches them, or they stay
abbrev pub Reaches : Bool → ℕ → ℕ → List ℕ → Image → Image → Type 0
Reaches true file at bytes old new = WritesAt file at bytes old new
Reaches false file at bytes old new = new ≡ old
