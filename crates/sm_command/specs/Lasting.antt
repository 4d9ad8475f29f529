-- What a crash leaves at the moments of a command on a store.
use Rattle.std.specs.Prelude.{◌≡◌, ◌≤◌, ◌<◌, ◌↔◌, ◌++◌, ℕ, List, Some, IfSome, IsSome}
use Rattle.sm_model.specs.declared.entry.Entry.{Entry}
use Rattle.sm_site.specs.Clauses.{SameOutcomes}
use Rattle.sm_site.specs.Image.{Image}
use Rattle.sm_site.specs.Meanings.{View, Item, Seen}
use Rattle.sm_archive.specs.Store.{IsNoStore, IsStore}
use Rattle.sm_origin.specs.Opening.{HasOneStore}
use Rattle.sm_origin.specs.Shown.{Claim, Holds}
use Rattle.sm_serve.specs.Shown.{Shown}

-- At each moment of a call a crash leaves what has P. What might have been left before it stays.
pub record AtEachMoment {D : Type 0} (site : Seen D) (old new : D) (P : Image → Type 0) : Type 0 where
  pub later : (site.view old).moment ≤ (site.view new).moment
  pub keeps : (t : ℕ) (image : Image) → t ≤ (site.view old).moment → site.left_at new t image ↔ site.left_at old t image
  pub each : (t : ℕ) (image : Image) → (site.view old).moment < t → site.left_at new t image → P image

-- The files weren't written: the contents stay, and at no moment of the call a crash leaves what it couldn't leave before.
pub record Untouched {D : Type 0} (site : Seen D) (old new : D) : Type 0 where
  pub contents : (site.view new).contents ≡ (site.view old).contents
  pub each : AtEachMoment site old new (site.may_leave old)

-- Files that are no store weren't written, whatever was answered.
abbrev pub Spared : {D : Type 0} → Seen D → D → D → Type 0
Spared site old new = IfSome (site.view old).contents (λ c. IsNoStore c → Untouched site old new)

-- no count of faults of the disk or of the link fell
pub record NoFewer (old new : View) : Type 0 where
  pub disk : old.disk_faults ≤ new.disk_faults
  pub link : old.link_faults ≤ new.link_faults

-- nothing was taken from the link and nothing was sent, and no count of faults fell
pub record IsSilent (old new : View) : Type 0 where
  pub transcript : new.transcript ≡ old.transcript
  pub send_faults : new.send_faults ≡ old.send_faults
  pub no_fewer : NoFewer old new

-- A call chose a site, or failed to, and did nothing else: the files weren't written, and a crash leaves of them what it might have left.
pub record OnlyChosen {D : Type 0} (site : Seen D) (old new : D) : Type 0 where
  pub contents : (site.view new).contents ≡ (site.view old).contents
  pub crash : SameOutcomes (site.may_leave old) (site.may_leave new)
  pub any_moment : AtEachMoment site old new (site.may_leave old)
  pub silent : IsSilent (site.view old) (site.view new)

-- where each image that a crash might have left was one store, a crash leaves that store at each moment of the call: nothing is kept and nothing
-- is declared in it
abbrev pub LeavesLog : {D : Type 0} → Seen D → D → D → Type 0
LeavesLog site old new = (log : List Entry) → HasOneStore log (site.may_leave old) → AtEachMoment site old new (IsStore log)

-- The image is a store. Its log begins with this one, and holds whatever the entries had shown by the moment.
pub record Outlives (log : List Entry) (items : List Item) (t : ℕ) (image : Image) : Type 0 where
  pub now : List Entry
  pub store : IsStore now image
  pub more : List Entry
  pub extends : now ≡ log ++ more
  pub holds : (claim : Claim) → Shown items t claim → Holds now claim

-- The call put entries behind the transcript. Whatever a crash may leave at a moment since the call began outlives what these had shown.
pub record Outlasts {D : Type 0} (site : Seen D) (log : List Entry) (base : List Item) (old new : D) : Type 0 where
  pub items : List Item
  pub told : (site.view new).transcript ≡ Some (base ++ items)
  pub survives : (t : ℕ) (image : Image) → (site.view old).moment ≤ t → site.left_at new t image → Outlives log items t image

-- On a disk that tells its contents, where each image that a crash might have left was one store, that store outlasts the call.
abbrev pub Lasts : {D : Type 0} → Seen D → D → D → Type 0
Lasts site old new =
    IsSome (site.view old).contents → (log : List Entry) → HasOneStore log (site.may_leave old) → (base : List Item) → (site.view old).transcript ≡ Some base
    → Outlasts site log base old new

-- No store is hurt, however a call ends.
pub record KeepsStores {D : Type 0} (site : Seen D) (old new : D) (IsRefused : Type 0) : Type 0 where
  -- what a crash may leave at each moment of the call is a store whose log begins with the one that was there, and holds what the call had
  -- shown by then
  pub lasts : Lasts site old new
  -- files that are refused as no store weren't written
  pub untouched : IsRefused → Untouched site old new
  -- and none that are no store were, whatever the answer
  pub spared : Spared site old new
