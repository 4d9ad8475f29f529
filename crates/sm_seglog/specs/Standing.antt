-- What a log over many files stands for, where a crash may leave these images, and what its calls leave of it.
use Rattle.std.specs.Prelude.{◌≡◌, ◌⊎◌, ℕ, ◌+◌, ◌-◌, ◌≤◌, ◌<◌, ◌^◌, min, List, [], ◌∷◌, ◌++◌, length, Option, Some, None, is_some}
use Rattle.sm_site.specs.Image.{Image}
use Rattle.sm_gatelog.specs.declared.answer.Appended.{Appended}
use Rattle.sm_gatelog.specs.declared.answer.Appended.TheVariants as appended
use Rattle.sm_gatelog.specs.declared.answer.Settled.{Settled}
use Rattle.sm_gatelog.specs.declared.answer.Settled.TheVariants as settled
use Rattle.sm_seglog.specs.Stores.{HasStore, slots_in}
use Rattle.sm_seglog.specs.Segments.{Segments, SegStands, GoesOn, HasRoom, count_of, slots_of}

-- The log has so many bodies, and each outcome of a crash has these, and perhaps the one in doubt behind them.
pub record Stands (log : Segments) (bodies : List (List ℕ)) (doubt : Option (List ℕ)) (outcomes : Image → Type 0) : Type 0 where
  pub count : count_of log ≡ min (length bodies) (2 ^ 64 - 1)
  pub doubts : is_some doubt ≡ is_some log.last.doubt
  pub each : (c : Image) → outcomes c → SegStands bodies doubt log outcomes

-- it stands for some bodies
abbrev pub IsSegLog : Segments → (Image → Type 0) → Type 0
IsSegLog log outcomes = (bodies : List (List ℕ)) × (doubt : Option (List ℕ)) × Stands log bodies doubt outcomes

-- The image has the bodies for which the log stands, at the log's own gates.
pub record IsOpened (log : Segments) (image : Image) (outcomes : Image → Type 0) : Type 0 where
  pub bodies : List (List ℕ)
  pub has : HasStore bodies image
  pub stands : Stands log bodies None outcomes
  pub slots : slots_of log.full ++ log.last.slots ≡ slots_in has.parts

abbrev pub AfterAppend : List (List ℕ) → List ℕ → Appended → Segments → (Image → Type 0) → Type 0
AfterAppend bodies body (appended.Stored place) log outcomes = (place ≡ min (length bodies) (2 ^ 64 - 1)) × Stands log (bodies ++ body ∷ []) None outcomes
AfterAppend bodies body appended.Clean log outcomes = Stands log bodies None outcomes
AfterAppend bodies body appended.Doubt log outcomes = Stands log bodies (Some body) outcomes

abbrev pub AfterSettle : List (List ℕ) → List ℕ → Settled → Segments → (Image → Type 0) → Type 0
AfterSettle bodies body (settled.Stored place) log outcomes = (place ≡ min (length bodies) (2 ^ 64 - 1)) × Stands log (bodies ++ body ∷ []) None outcomes
AfterSettle bodies body settled.Gone log outcomes = Stands log bodies None outcomes
AfterSettle bodies body settled.DiskFault log outcomes = Stands log bodies (Some body) outcomes

-- there is a file for a body of this length
abbrev pub Fits : Segments → ℕ → Type 0
Fits log n = GoesOn log n ⊎ (length log.full < 1023)

-- the record of the last body ends within its file, or is alone in it
abbrev pub EndsWithin : Segments → Type 0
EndsWithin log = (length log.last.slots ≡ 1) ⊎ (log.last.end + 1 ≤ 2 ^ 28)

-- a body was not stored: what fitted still fits, and a place in the list is still free
pub record Stays (old new : Segments) : Type 0 where
  pub fits : (n : ℕ) → Fits old n → Fits new n
  pub spare : 1 ≤ new.last.spare

-- what an append leaves of the files and of what is reserved
abbrev pub Leaves : Segments → Appended → Segments → Type 0
Leaves old (appended.Stored place) new = EndsWithin new
Leaves old appended.Clean new = Stays old new
Leaves old appended.Doubt new = Stays old new

-- of what was reserved one place of the list at most was used, and no room
pub record StaysReserved (old new : Segments) : Type 0 where
  pub spare : old.last.spare ≤ new.last.spare + 1
  pub room : (n : ℕ) → HasRoom old n → HasRoom new n
