-- What reading back does to a run, and what it gives.
use Rattle.std.specs.Prelude.{◌≡◌, ◌≤◌, ◌<◌, ◌⊎◌, ◌++◌, ℕ, List, [], All, Option, Some, IsSome, is_some, IsTrue, length, map, slice_get, Result, Ok, Err, IsErrOf}
use Rattle.sm_model.specs.declared.entry.Entry.{Entry}
use Rattle.sm_model.specs.declared.entry.Entry.TheVariants.{Keep}
use Rattle.sm_model.specs.declared.fragment.Fragment.{Fragment}
use Rattle.sm_model.specs.Entries.{address_of}
use Rattle.sm_model.specs.Fragments.{IsValid}
use Rattle.sm_log.specs.Adds.{Add}
use Rattle.sm_log.specs.Digests.{Digest, keeps_of, bytes_of}
use Rattle.sm_catalog.specs.Content.{Content}
use Rattle.sm_site.specs.Meanings.{DiskAlone, Item, Seen}
use Rattle.sm_site.specs.Clauses.{Rose}
use Rattle.sm_archive.specs.declared.archive.Archive.{Archive}
use Rattle.sm_archive.specs.declared.fetch.Fetched.{Fetched}
use Rattle.sm_archive.specs.declared.fetch.Fetched.TheVariants as fetched
use Rattle.sm_archive.specs.Stands.{Keeps}
use Rattle.sm_archive.specs.Looking.{ShowsCatalog}
use Rattle.sm_origin.specs.declared.origin.Origin.{Origin}
use Rattle.sm_origin.specs.Seen.{archive_of}
use Rattle.sm_serve.specs.declared.state.State.{State}
use Rattle.sm_serve.specs.Run.{ladders}
use Rattle.sm_serve.specs.Standing.{History, StandsForSome, is_told}
use Rattle.sm_serve.specs.Serving.{Serves, Since}
use Rattle.sm_shelf.specs.Parts.{IsEnd, addresses_in}
use Rattle.sm_shelf.specs.Past.{all_at, last_of}
use Rattle.sm_shelf.specs.Shelf.{Belongs, Desk}
use Rattle.sm_show.specs.declared.outcome.Lack.{Lack}
use Rattle.sm_show.specs.declared.outcome.Lack.TheVariants as lack
use Rattle.sm_show.specs.declared.outcome.Up.{Up}
use Rattle.sm_show.specs.declared.outcome.Up.TheVariants.{Behind}

-- The run goes on by steps alone that no connection asks for, and that declare no ladder. They leave the log, where the disk tells its contents.
pub record Rests {D : Type 0} (site : Seen D) (h : History) (state : State) (d : D) : Type 0 where
  pub later : History
  pub serves : Serves site later state d
  pub since : Since h later
  pub same : later.items ≡ h.items
  pub log : IsTrue (is_told (site.view d)) → later.point.machine.log ≡ h.point.machine.log
  pub no_ladder : ladders later.steps ≡ ladders h.steps

-- So it does wherever it had come; the origin stands for its log, the link stays as it is, and the disk's faults become no fewer.
pub record Recalls {D : Type 0} (site : Seen D) (state : State) (old new : D) : Type 0 where
  pub stands : StandsForSome site state.origin new
  pub rests : (h : History) → Serves site h state old → Rests site h state new
  pub told : is_some (site.view new).contents ≡ is_some (site.view old).contents
  pub disk_alone : DiskAlone (site.view old) (site.view new)

-- the catalog is that of whichever log the archive keeps
abbrev pub Shows : Archive → Option Content → Type 0
Shows a o = (bodies : List (List ℕ)) (body : Option (List ℕ)) (log : List Entry) (doubt : Option Entry) → Keeps a bodies body log doubt → ShowsCatalog o log

-- the origin stands for its log, and the catalog is that log's
pub record Lists {D : Type 0} (site : Seen D) (origin : Origin) (catalog : Content) (d : D) : Type 0 where
  pub stands : StandsForSome site origin d
  pub of : Shows (archive_of origin) (Some catalog)

-- what reading back leaves: the disk is blamed only where it counted a fault, if it tells its contents
pub record ReadsBack {D T : Type 0} (site : Seen D) (state : State) (old new : D) (result : Result T Lack) : Type 0 where
  pub recalls : Recalls site state old new
  pub fault : IsErrOf result lack.Disk → IsSome (site.view old).contents → Rose (site.view old).disk_faults (site.view new).disk_faults

-- These digests were published there, one after the other, while the transcript was this.
pub record Publishes (told : Option (List Item)) (before after : Desk) : Type 0 where
  pub digests : List Digest
  pub past : after.past ≡ before.past ++ all_at told digests
  pub last : after.published ≡ last_of before.published digests

-- What bringing the shelf up leaves: it is the same shelf, and what was published is put down with the transcript as it was; where the disk tells its
-- contents what belonged to the log still does, and the shelf is behind only where the disk counted a fault.
pub record BringsUp {D : Type 0} (site : Seen D) (state : State) (old new : D) (before after : Desk) (result : Up) : Type 0 where
  pub recalls : Recalls site state old new
  pub table : after.table ≡ before.table
  pub publishes : Publishes (site.view old).transcript before after
  pub belongs : (h : History) → Serves site h state old → IsSome (site.view old).contents → Belongs h.point.machine.log before
      → Belongs h.point.machine.log after
  pub behind : result ≡ Behind → IsSome (site.view old).contents → Rose (site.view old).disk_faults (site.view new).disk_faults

-- What was read back is a valid fragment of the address that was added there; where the disk tells its contents it is the log's.
pub record Reads {D : Type 0} (site : Seen D) (state : State) (adds : List Add) (index : ℕ) (old : D) (f : Fragment) : Type 0 where
  pub added : Add
  pub at : slice_get adds index ≡ Some added
  pub valid : IsValid f
  pub address : address_of f ≡ added.address
  pub found : (h : History) → Serves site h state old → IsSome (site.view old).contents → slice_get h.point.machine.log added.place ≡ Some (Keep f)

-- The fragments are valid, and stand at the last addresses that were added; where the disk tells its contents they are the log's last ones, and
-- all of them or more than fit a window.
pub record IsEndOf {D : Type 0} (site : Seen D) (state : State) (adds : List Add) (old : D) (fs : List Fragment) : Type 0 where
  pub valid : All IsValid fs
  pub within : length fs ≤ length adds
  pub last : IsEnd (addresses_in adds) (map address_of fs)
  pub kept : (h : History) → Serves site h state old → IsSome (site.view old).contents → (front : List Fragment)
      × (keeps_of h.point.machine.log ≡ front ++ fs) × ((front ≡ []) ⊎ (67108864 < bytes_of fs))

-- what was fetched, or why it isn't there; one that is absent is not asked for
abbrev pub had_of : Fetched → Result Fragment Lack
had_of (fetched.Found place f) = Ok f
had_of fetched.Absent = Err lack.NoMemory
had_of fetched.DiskFault = Err lack.Disk
had_of fetched.Damaged = Err lack.Disk
had_of fetched.NoMemory = Err lack.NoMemory
