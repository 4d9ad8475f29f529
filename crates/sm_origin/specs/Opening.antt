-- What an origin is opened on.
use Rattle.std.specs.Prelude.{◌≡◌, ℕ, List, [], None, Result, IfOk, IfSome, IsErrOf}
use Rattle.sm_model.specs.declared.entry.Entry.{Entry}
use Rattle.sm_site.specs.Image.{Image}
use Rattle.sm_site.specs.Meanings.{Seen, DiskAlone}
use Rattle.sm_site.specs.Clauses.{Rose, NoMore, Throughout}
use Rattle.sm_seglog.specs.Stores.{HasStore}
use Rattle.sm_log.specs.Logs.{IsSound}
use Rattle.sm_archive.specs.declared.limits.Limits.{Limits}
use Rattle.sm_archive.specs.declared.opened.OpenFault.{OpenFault}
use Rattle.sm_archive.specs.declared.opened.OpenFault.TheVariants as open_fault
use Rattle.sm_archive.specs.Store.{IsStore, Spell}
use Rattle.sm_archive.specs.Opening.{NotAStore}
use Rattle.sm_archive.specs.Seen.{limits_of}
use Rattle.sm_origin.specs.declared.origin.Origin.{Origin}
use Rattle.sm_origin.specs.Machine.{Machine}
use Rattle.sm_origin.specs.Acting.{StandsOn}
use Rattle.sm_origin.specs.Seen.{archive_of}

-- each image that a crash may leave has the same bodies, which are those of this log
pub record HasOneStore (log : List Entry) (outcomes : Image → Type 0) : Type 0 where
  pub bodies : List (List ℕ)
  pub each : (image : Image) → outcomes image → HasStore bodies image
  pub spell : Spell bodies log
  pub sound : IsSound log

-- Only the store of an empty log is written: any other contents stayed, and at no moment of the call a crash leaves what it couldn't leave
-- before.
abbrev pub WritesEmptyAlone : {D : Type 0} (site : Seen D) → D → D → Type 0
WritesEmptyAlone site old new = IfSome (site.view old).contents (λ c. (IsStore [] c → ⊥) → ((site.view new).contents ≡ (site.view old).contents)
    × NoMore (site.may_leave old) (site.may_leave new) × Throughout site old new (λ t image. site.may_leave old image))

-- What opening a store under these limits comes to: an origin, or what has one, or a fault.
pub record Opens {D T : Type 0} (site : Seen D) (origin_of : T → Origin) (old new : D) (under : Limits) (result : Result T OpenFault) : Type 0 where
  -- The origin stands for some log without a doubt, which is the store's where the disk tells its contents.
  pub opened : IfOk result (λ x. (m : Machine) × (m.doubt ≡ None) × StandsOn site m (origin_of x) new)
  pub store : IfOk result (λ x. IfSome (site.view old).contents (λ c. (m : Machine) × IsStore m.log c × (m.doubt ≡ None) × StandsOn site m (origin_of x) new))
  pub limits : IfOk result (λ x. limits_of (archive_of (origin_of x)) ≡ under)
  pub refused : (at : ℕ) → IsErrOf result (open_fault.NotAStore at) → IfSome (site.view old).contents (NotAStore at)
  -- A store that is refused isn't written: the contents stay, and at no moment a crash leaves what it couldn't leave before.
  pub untouched : (at : ℕ) → IsErrOf result (open_fault.NotAStore at) → ((site.view new).contents ≡ (site.view old).contents)
      × NoMore (site.may_leave old) (site.may_leave new) × Throughout site old new (λ t c. site.may_leave old c)
  -- Only the store of an empty log is written, whatever the answer.
  pub spared : WritesEmptyAlone site old new
  -- Where every image is one store, it stays that at each moment.
  pub any_moment : (log : List Entry) → HasOneStore log (site.may_leave old) → Throughout site old new (λ t c. IsStore log c)
  pub stays : (log : List Entry) → HasOneStore log (site.may_leave old) → HasOneStore log (site.may_leave new)
  pub fault : IsErrOf result open_fault.DiskFault → Rose (site.view old).disk_faults (site.view new).disk_faults
  pub disk_alone : DiskAlone (site.view old) (site.view new)
