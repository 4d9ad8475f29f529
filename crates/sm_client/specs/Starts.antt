-- Starts that are known.
use Rattle.std.specs.Prelude.{◌≡◌, ◌<◌, ◌==◌, ◌||◌, ◌&&◌, ℕ, Bool, false, List, [], ◌∷◌, map, nat_lt, if◌then◌else◌, ◌+◌}
use Rattle.std.specs.List.{AllByRecursion}

-- whether it is one of them
abbrev pub has : ℕ → List ℕ → Bool
has k [] = false
has k (x ∷ xs) = x == k || has k xs

-- each is below the one before it, so that each stands once
abbrev pub Falls : List ℕ → Type 0
Falls [] = Unit {0}
Falls (x ∷ xs) = AllByRecursion (λ y. y < x) xs × Falls xs

-- the starts of times
abbrev pub starts : List (ℕ × ℕ) → List ℕ
starts ts = map (λ t. t.0) ts

-- those behind a start, each once
pub record AreAfter (known : List ℕ) (start : ℕ) (after : List ℕ) : Type 0 where
  pub once : Falls after
  pub are : (k : ℕ) → has k after ≡ (nat_lt start k && has k known)

-- how many at the front stand above a start
abbrev pub place_in : ℕ → List ℕ → ℕ
place_in start [] = 0
place_in start (x ∷ xs) = if nat_lt start x then place_in start xs + 1 else 0
