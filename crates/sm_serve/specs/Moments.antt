-- What stands at a moment of a run.
use Rattle.std.specs.Prelude.{◌≡◌, ◌⊎◌, ℕ, ◌<◌, nat_le, List, [], ◌∷◌, ◌++◌, if◌then◌else◌}
use Rattle.sm_site.specs.Image.{Image}
use Rattle.sm_origin.specs.Machine.{Machine, entry_of}
use Rattle.sm_origin.specs.Stores.{Fits, FitsInside}
use Rattle.sm_serve.specs.Run.{Stepped}

-- the machine behind the last step that ended by a moment
abbrev pub machine_at : Machine → List Stepped → ℕ → Machine
machine_at m [] t = m
machine_at m (x ∷ steps) t = machine_at (if nat_le x.ends t then x.after else m) steps t

-- the moment lies inside a step
abbrev pub IsInside : ℕ → Stepped → Type 0
IsInside t x = (x.began < t) × (t < x.ends)

abbrev pub IsOneOf : Stepped → List Stepped → Type 0
IsOneOf x steps = (front behind : List Stepped) × (steps ≡ front ++ x ∷ behind)

-- The image is a store with the log of the last step that ended by the moment; or with that and the doubt; or, inside a step
-- that writes, with one of these two and the entry that is being written.
abbrev pub FitsAt : Machine → List Stepped → ℕ → Image → Type 0
FitsAt first steps t image =
    Fits (machine_at first steps t) image
    ⊎ ((x : Stepped) × IsOneOf x steps × IsInside t x × FitsInside (machine_at first steps t) (entry_of x.act) image)
