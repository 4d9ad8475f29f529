-- What a crash leaves of a run.
use Rattle.std.specs.Prelude.{◌≡◌, ℕ, List, ◌++◌}
use Rattle.sm_model.specs.declared.entry.Entry.{Entry}
use Rattle.sm_site.specs.Image.{Image}
use Rattle.sm_site.specs.Meanings.{Item}
use Rattle.sm_archive.specs.Store.{IsStore}
use Rattle.sm_origin.specs.Machine.{Machine}
use Rattle.sm_origin.specs.Shown.{Claim, Holds}
use Rattle.sm_serve.specs.Shown.{Shown}

-- The image is a store. Its log begins with the one found at the start, and holds whatever the entries had shown by the moment.
pub record Survives (first : Machine) (items : List Item) (t : ℕ) (image : Image) : Type 0 where
  pub log : List Entry
  pub store : IsStore log image
  pub more : List Entry
  pub extends : log ≡ first.log ++ more
  pub holds : (claim : Claim) → Shown items t claim → Holds log claim
