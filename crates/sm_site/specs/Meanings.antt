-- What a disk, a link and a site mean, beside the two tests of an image. A real link tells no transcript and no script,
-- and a real disk no contents and no calls.
use Rattle.std.specs.Prelude.{◌≡◌, ◌≤◌, ◌++◌, ℕ, Bool, true, false, List, [], ◌∷◌, Option, if◌then◌else◌, ◌==◌, IsTrue}
use Rattle.sm_site.specs.Faults.{one_more}
use Rattle.sm_site.specs.Image.{Image}

-- a call of a disk: the size of a file, a read of so many bytes from a place on, a write of these bytes from a place on, a sync
pub data Deed : Type 0 where
  Sized : ℕ → Deed
  Read : ℕ → ℕ → ℕ → Deed
  Wrote : ℕ → ℕ → List ℕ → Deed
  Synced : ℕ → Deed

-- a disk call, the moment after it, and whether it failed
pub record DiskCall : Type 0 where
  pub moment : ℕ
  pub deed : Deed
  pub failed : Bool

-- what was dealt with: a connection was opened, brought bytes, was closed by its peer; the events were over; bytes went out
-- (and whether that send failed); a connection was closed
pub data Deal : Type 0 where
  Began : ℕ → Deal
  Came : ℕ → List ℕ → Deal
  Left : ℕ → Deal
  Over : Deal
  Sent : ℕ → List ℕ → Bool → Deal
  Shut : ℕ → Deal

-- an entry of the transcript
pub record Item : Type 0 where
  pub moment : ℕ
  pub deal : Deal

-- what a site is selected with: the folder, whether it is made where it isn't there, the port (0 asks for no link), the address to listen
-- at, and the file of the journal
pub record Chosen : Type 0 where
  pub store : List ℕ
  pub make : Bool
  pub port : ℕ
  pub bind : Option (List ℕ)
  pub journal : Option (List ℕ)

-- what a site is selected with, if it is, and how often it was asked to be, up to the last value of 64 bits
pub record Choice : Type 0 where
  pub selection : Option Chosen
  pub asks : ℕ

-- it was asked once more, and is selected with this, or after a refusal with nothing
abbrev pub asked : Choice → Option Chosen → Choice
asked was selection = record { selection = selection; asks = one_more was.asks }

-- The clock; the contents of the disk, its record of calls and its counts; the transcript of the link, the events that are
-- still to come, and its counts; what the site is selected with.
pub record View : Type 0 where
  pub moment : ℕ
  pub contents : Option Image
  pub calls : Option (List DiskCall)
  pub reads : ℕ
  pub disk_faults : ℕ
  pub transcript : Option (List Item)
  pub script : Option (List Deal)
  pub link_faults : ℕ
  pub send_faults : ℕ
  pub chosen : Choice

-- what contracts see of a site: what it tells, the images that a crash now may leave, and those that one at a moment may have left
pub record Seen (D : Type 0) : Type 1 where
  pub view : D → View
  pub may_leave : D → Image → Type 0
  pub left_at : D → ℕ → Image → Type 0

-- what a call of a disk leaves as it was
pub record SameLink (old new : View) : Type 0 where
  pub transcript : new.transcript ≡ old.transcript
  pub script : new.script ≡ old.script
  pub link_faults : new.link_faults ≡ old.link_faults
  pub send_faults : new.send_faults ≡ old.send_faults
  pub chosen : new.chosen ≡ old.chosen

-- a call touches the disk alone: the link is as it was, and the disk's faults are no fewer
pub record DiskAlone (old new : View) : Type 0 where
  pub link : SameLink old new
  pub no_fewer : old.disk_faults ≤ new.disk_faults

-- what a call of a link leaves as it was
pub record SameDisk (old new : View) : Type 0 where
  pub contents : new.contents ≡ old.contents
  pub calls : new.calls ≡ old.calls
  pub reads : new.reads ≡ old.reads
  pub disk_faults : new.disk_faults ≡ old.disk_faults
  pub chosen : new.chosen ≡ old.chosen

-- whether a connection is open after an entry
abbrev pub open_after : Bool → ℕ → Deal → Bool
open_after was conn (Began n) = if n == conn then true else was
open_after was conn (Came n bytes) = was
open_after was conn (Left n) = if n == conn then false else was
open_after was conn Over = was
open_after was conn (Sent n bytes failed) = was
open_after was conn (Shut n) = if n == conn then false else was

abbrev pub open_from : Bool → ℕ → List Item → Bool
open_from was conn [] = was
open_from was conn (item ∷ items) = open_from (open_after was conn item.deal) conn items

-- it was opened, and isn't closed
abbrev pub IsLive : ℕ → List Item → Type 0
IsLive conn items = IsTrue (open_from false conn items)

-- the bytes that went out on a connection
abbrev pub sent_by : ℕ → Deal → List ℕ
sent_by conn (Began n) = []
sent_by conn (Came n bytes) = []
sent_by conn (Left n) = []
sent_by conn Over = []
sent_by conn (Sent n bytes failed) = if n == conn then bytes else []
sent_by conn (Shut n) = []

abbrev pub sent_on : ℕ → List Item → List ℕ
sent_on conn [] = []
sent_on conn (item ∷ items) = sent_by conn item.deal ++ sent_on conn items
