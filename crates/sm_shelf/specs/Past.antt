-- What was published on a shelf, one after the other.
use Rattle.std.specs.Prelude.{List, [], ◌∷◌, map, Option}
use Rattle.sm_log.specs.Digests.{Digest}
use Rattle.sm_site.specs.Meanings.{Item}

-- a digest that was published, and the transcript of the link then
pub record Publishing : Type 0 where
  pub told : Option (List Item)
  pub digest : Digest

abbrev pub publishing : Option (List Item) → Digest → Publishing
publishing told d = record { told = told; digest = d }

-- these digests, each published while the transcript was this
abbrev pub all_at : Option (List Item) → List Digest → List Publishing
all_at told digests = map (publishing told) digests

-- the last of these, or what was published before
abbrev pub last_of : Digest → List Digest → Digest
last_of before [] = before
last_of before (d ∷ ds) = last_of d ds
