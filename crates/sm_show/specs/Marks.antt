-- What is shown behind each turn.
use Rattle.std.specs.Prelude.{◌≡◌, ◌++◌, ◌↔◌, ℕ, List, [], ◌∷◌, Option, Some, length, sum_by}
use Rattle.sm_log.specs.Digests.{Digest, digest_of}
use Rattle.sm_site.specs.Meanings.{Deal, Item}
use Rattle.sm_site.specs.Clauses.{Rose}
use Rattle.sm_serve.specs.declared.outcome.Served.{Served}
use Rattle.sm_serve.specs.declared.outcome.Served.TheVariants as served
use Rattle.sm_serve.specs.Connections.{deals_in}
use Rattle.sm_serve.specs.Standing.{History}
use Rattle.sm_serve.specs.Serving.{Since}
use Rattle.sm_shelf.specs.Past.{Publishing, all_at, last_of}
use Rattle.sm_shelf.specs.Shelf.{Desk, Belongs, IsFront}
use Rattle.sm_show.specs.declared.outcome.Lack.{Lack}
use Rattle.sm_show.specs.declared.outcome.Lack.TheVariants as lack
use Rattle.sm_show.specs.declared.outcome.Up.{Up}
use Rattle.sm_show.specs.declared.outcome.Up.TheVariants.{Whole, Behind, Short}

-- A turn: the run behind it, the run behind the publishing that followed, the digests that were published by it, one after the other, the one that is
-- published then, and how it is counted.
pub record Mark : Type 0 where
  pub turned : History
  pub behind : History
  pub added : List Digest
  pub shown : Digest
  pub up : Up

-- Publishing is no event, and leaves the log. What is published then is the digest of a front of the log, and counts as whole exactly where it
-- is the log's. It counts as behind only where the disk's faults rose since the turn.
pub record IsMark (m : Mark) : Type 0 where
  pub since : Since m.turned m.behind
  pub same : m.behind.items ≡ m.turned.items
  pub log : m.behind.point.machine.log ≡ m.turned.point.machine.log
  pub front : IsFront m.behind.point.machine.log m.shown
  pub whole : (m.up ≡ Whole) ↔ (m.shown ≡ digest_of m.behind.point.machine.log)
  pub blamed : m.up ≡ Behind → Rose m.turned.point.faults m.behind.point.faults

-- the marks of successive turns, each of one event
abbrev pub Follow : History → List Mark → History → Type 0
Follow from [] to = to ≡ from
Follow from (m ∷ ms) to =
    Since from m.turned × ((deal : Deal) × (deals_in m.turned.items ≡ deals_in from.items ++ deal ∷ [])) × IsMark m × Follow m.behind ms to

-- what a lack makes of the shelf
abbrev pub up_by : Lack → Up
up_by lack.Disk = Behind
up_by lack.NoMemory = Short

abbrev pub behind_by : Up → ℕ
behind_by Whole = 0
behind_by Behind = 1
behind_by Short = 0

abbrev pub short_by : Up → ℕ
short_by Whole = 0
short_by Behind = 0
short_by Short = 1

-- so many turns lead from one to the other, of which so many were counted
pub record AreCounted (from to : History) (turns behind short : ℕ) : Type 0 where
  pub marks : List Mark
  pub many : length marks ≡ turns
  pub follow : Follow from marks to
  pub behind_is : behind ≡ sum_by (λ m. behind_by m.up) marks
  pub short_is : short ≡ sum_by (λ m. short_by m.up) marks

-- what the link has told where a run has come
abbrev pub told_at : History → Option (List Item)
told_at h = Some (h.base ++ h.items)

-- what is shown behind each is the last that was published by then, where this was before
abbrev pub InOrder : Digest → List Mark → Type 0
InOrder before [] = Unit {0}
InOrder before (m ∷ ms) = (m.shown ≡ last_of before m.added) × InOrder m.shown ms

-- all that was published up to the last of these, where this was before: each while the transcript ended with that turn
abbrev pub past_after : List Publishing → List Mark → List Publishing
past_after past [] = past
past_after past (m ∷ ms) = past_after (past ++ all_at (told_at m.turned) m.added) ms

-- what was published behind the last of these, where this was before
abbrev pub shown_after : Digest → List Mark → Digest
shown_after before [] = before
shown_after before (m ∷ ms) = shown_after m.shown ms

-- The shelf was brought up to the log before the first event and behind each turn, and what is published belongs to the log and is what it was
-- brought up to last. All that was published since is this, each digest before the next event was taken.
pub record Shows (h last : History) (turns behind short : ℕ) (before desk : Desk) : Type 0 where
  -- before the first event
  pub begun : History
  pub since : Since h begun
  pub same : begun.items ≡ h.items
  pub log : begun.point.machine.log ≡ h.point.machine.log
  pub added : List Digest
  pub first : Digest
  pub first_is : first ≡ last_of before.published added
  pub front : IsFront begun.point.machine.log first
  -- behind each turn
  pub counted : AreCounted begun last turns behind short
  pub in_order : InOrder first counted.marks
  pub last_is : desk.published ≡ shown_after first counted.marks
  pub past : desk.past ≡ past_after (before.past ++ all_at (told_at h) added) counted.marks
  pub belongs : Belongs last.point.machine.log desk

-- So it was up to the last turn, which leads to the end.
pub record ShownUp (h later : History) (turns behind short : ℕ) (before desk : Desk) : Type 0 where
  pub last : History
  pub shows : Shows h last turns behind short before desk
  pub since : Since last later
  pub belongs : Belongs later.point.machine.log desk

-- Another end comes behind so many turns, of which so many were counted.
abbrev pub HasShown : History → Served → History → Desk → Desk → Type 0
HasShown h (served.Done taken behind short) later before desk = ShownUp h later taken behind short before desk
HasShown h served.LinkFault later before desk = (taken : ℕ) × (behind : ℕ) × (short : ℕ) × ShownUp h later taken behind short before desk
HasShown h served.NoMemory later before desk = (taken : ℕ) × (behind : ℕ) × (short : ℕ) × ShownUp h later taken behind short before desk
