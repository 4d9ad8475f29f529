-- What an origin says of pushes.
use Rattle.std.specs.Prelude.{◌≡◌, ◌≢◌, ◌≤◌, ◌+◌, ◌-◌, ℕ, List, [], ◌∷◌}
use Rattle.sm_fetch.specs.declared.dial.Exchange.{Exchange}
use Rattle.sm_fetch.specs.declared.push.Pushed.{Pushed}
use Rattle.sm_fetch.specs.declared.push.Pushed.TheVariants as pushed
use Rattle.sm_fetch.specs.Spelt.{SpellsPush}
use Rattle.sm_reply.specs.Replies.{counts_line}
use Rattle.sm_world.specs.declared.told.Told.{Told}
use Rattle.sm_world.specs.declared.told.Told.TheVariants as told

-- a 200 says how many of so many fragments are kept now and how many were known; a 409 refuses; and it is no other 200 and no 409
abbrev pub Says : ℕ → Pushed → Told → Type 0
Says fragments p (told.Taken known) = (known ≤ fragments) × (p ≡ pushed.Status 200 (counts_line (fragments - known) known))
Says fragments p told.Refused = (line : List ℕ) × (p ≡ pushed.Status 409 line)
Says fragments p told.Failed = (p ≢ pushed.NoMemory) × ((status : ℕ) (line : List ℕ) → p ≡ pushed.Status status line → (status ≢ 200) × (status ≢ 409))

-- how many fragments were known, and how many pushes were refused, by what was said of one
abbrev pub known_by : Told → ℕ
known_by (told.Taken known) = known
known_by told.Refused = 0
known_by told.Failed = 0

abbrev pub refused_by : Told → ℕ
refused_by (told.Taken known) = 0
refused_by told.Refused = 1
refused_by told.Failed = 0

-- what the answer to a push of so many fragments says
pub record SaysOf (fragments : ℕ) (x : Exchange) (t : Told) : Type 0 where
  pub came : Pushed
  pub spells : SpellsPush x.answer came
  pub says : Says fragments came t

-- The answers to these pushes, of so many fragments each, say in all how many fragments were known, and how many pushes were refused.
abbrev pub Tell : List ℕ → List Exchange → ℕ → ℕ → Type 0
Tell [] [] known refused = (known ≡ 0) × (refused ≡ 0)
Tell [] (x ∷ xs) known refused = ⊥
Tell (n ∷ ns) [] known refused = ⊥
Tell (n ∷ ns) (x ∷ xs) known refused =
    (t : Told) × SaysOf n x t × ((k r : ℕ) × Tell ns xs k r × (known ≡ known_by t + k) × (refused ≡ refused_by t + r))
