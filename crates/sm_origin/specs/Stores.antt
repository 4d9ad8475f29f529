-- The logs that a crash may leave.
use Rattle.std.specs.Prelude.{◌≡◌, ◌⊎◌, List, [], ◌∷◌, ◌++◌, Option, Some}
use Rattle.sm_model.specs.declared.entry.Entry.{Entry}
use Rattle.sm_site.specs.Image.{Image}
use Rattle.sm_archive.specs.Store.{IsStore}
use Rattle.sm_origin.specs.Machine.{Machine}

-- nothing, or the entry
abbrev pub IsPartOf : Option Entry → List Entry → Type 0
IsPartOf o part = (part ≡ []) ⊎ ((e : Entry) × (o ≡ Some e) × (part ≡ e ∷ []))

-- the image has the log, or it and the doubt
pub record Fits (m : Machine) (image : Image) : Type 0 where
  pub doubt : List Entry
  pub of_doubt : IsPartOf m.doubt doubt
  pub store : IsStore (m.log ++ doubt) image

-- the image has the log, or it and the doubt, perhaps with the entry that is being written behind it
pub record FitsInside (m : Machine) (entry : Option Entry) (image : Image) : Type 0 where
  pub doubt : List Entry
  pub of_doubt : IsPartOf m.doubt doubt
  pub written : List Entry
  pub of_entry : IsPartOf entry written
  pub store : IsStore ((m.log ++ doubt) ++ written) image
