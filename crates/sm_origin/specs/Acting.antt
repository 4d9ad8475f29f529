-- What one act does.
use Rattle.std.specs.Prelude.{◌≡◌, ℕ, ◌<◌, ◌≤◌, ◌↔◌, List, [], ◌++◌, Some, IsSome, slice_get, Contains}
use Rattle.sm_model.specs.declared.address.Address.{Address}
use Rattle.sm_model.specs.declared.entry.Entry.{Entry}
use Rattle.sm_model.specs.declared.entry.Entry.TheVariants.{Keep}
use Rattle.sm_model.specs.declared.act.Act.{Act}
use Rattle.sm_model.specs.declared.act.Act.TheVariants.{Manifest, Fragment as Ask, Unknown, Header, Frag, End, Refuse}
use Rattle.sm_model.specs.Channels.{IsChannel}
use Rattle.sm_model.specs.Entries.{address_of}
use Rattle.sm_model.specs.Fragments.{IsValid}
use Rattle.sm_log.specs.Adds.{place_of}
use Rattle.sm_log.specs.Logs.{adds_of}
use Rattle.sm_cache.specs.declared.cache.Kept.{Kept}
use Rattle.sm_site.specs.Image.{Image}
use Rattle.sm_site.specs.Meanings.{DiskCall, Seen}
use Rattle.sm_site.specs.Clauses.{Both, Rose, last_moment}
use Rattle.sm_archive.specs.Stands.{Stands}
use Rattle.sm_origin.specs.declared.origin.Origin.{Origin}
use Rattle.sm_reply.specs.declared.reply.Reply.{Reply}
use Rattle.sm_origin.specs.Machine.{Machine, SameLog, Step, entry_of}
use Rattle.sm_origin.specs.Stores.{Fits, FitsInside}
use Rattle.sm_archive.specs.Seen.{limits_of}

-- it is a valid fragment of that address, which the log has at that place; where the disk tells its contents it is the log's own
pub record IsHeld (has_told : Type 0) (log : List Entry) (pair : Address × Kept) : Type 0 where
  pub address : address_of pair.1.fragment ≡ pair.0
  pub valid : IsValid pair.1.fragment
  pub place : place_of pair.0 (adds_of log) ≡ Some pair.1.place
  pub same : has_told → slice_get log pair.1.place ≡ Some (Keep pair.1.fragment)

-- each pair of a cache is held in the log
abbrev pub AreHeld : Type 0 → List Entry → List (Address × Kept) → Type 0
AreHeld has_told log pairs = (pair : Address × Kept) → Contains pairs pair → IsHeld has_told log pair

-- the origin stands for the machine, where a crash may leave these images and the disk tells its contents or not
pub record StandsFor (has_told : Type 0) (m : Machine) (o : Origin) (outcomes : Image → Type 0) : Type 0 where
  pub archive : m.archive ≡ o.archive
  pub stands : Stands o.archive m.log m.doubt outcomes
  pub cached : AreHeld has_told m.log o.cache.entries

-- the same on a site or a disk
abbrev pub StandsOn : {D : Type 0} (site : Seen D) → Machine → Origin → D → Type 0
StandsOn site m origin d = StandsFor (IsSome (site.view d).contents) m origin (site.may_leave d)

-- it stands for some machine there
abbrev pub StandsForSome : {D : Type 0} (site : Seen D) → Origin → D → Type 0
StandsForSome site origin d = (m : Machine) × StandsOn site m origin d

-- its channel or fragment is valid
abbrev pub IsValidAct : Act → Type 0
IsValidAct Manifest = Unit {0}
IsValidAct (Ask a) = Unit {0}
IsValidAct Unknown = Unit {0}
IsValidAct (Header channel) = IsChannel channel
IsValidAct (Frag f) = IsValid f
IsValidAct (End kept known) = Unit {0}
IsValidAct (Refuse r) = Unit {0}

-- One act was one step, on a disk that tells its contents. At each moment of it a crash leaves the log before it, perhaps with the doubt, perhaps
-- with the entry that is being written; from its last disk call on, what stands behind the step.
pub record ActGives {D : Type 0} (site : Seen D)
    (old new : D) (m : Machine) (origin : Origin) (act : Act) (reply : Reply) : Type 0 where
  pub after : Machine
  pub calls : List DiskCall
  pub step : Step (Rose (site.view old).disk_faults (site.view new).disk_faults) m act after reply
  pub has_told : IsSome (site.view new).contents
  pub stands : StandsOn site after origin new
  pub limits : limits_of after.archive ≡ limits_of m.archive
  pub noted : Both (site.view old).calls (site.view new).calls (λ before now. now ≡ before ++ calls)
  -- with no disk call nothing changes
  pub still : calls ≡ [] → SameLog m after
  pub later : (site.view old).moment ≤ (site.view new).moment
  -- the act ends with its last disk call
  pub ended : (site.view new).moment ≡ last_moment (site.view old).moment calls
  pub keeps : (t : ℕ) (image : Image) → t ≤ (site.view old).moment → site.left_at new t image ↔ site.left_at old t image
  pub inside : (t : ℕ) (image : Image) → (site.view old).moment < t → site.left_at new t image → FitsInside m (entry_of act) image
  pub now : (image : Image) → site.may_leave new image → Fits after image
  pub since : (t : ℕ) (image : Image) → (site.view new).moment ≤ t → site.left_at new t image → Fits after image
