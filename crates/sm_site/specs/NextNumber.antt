-- The numbers that connections may still have.
use Rattle.std.specs.Prelude.{◌≡◌, ℕ, ◌≤◌, ◌^◌, Option, Some, None}

-- the number, or none where it has more than 64 bits
abbrev pub IsNumber : Option ℕ → ℕ → Type 0
IsNumber (Some n) k = n ≡ k
IsNumber None k = 2 ^ 64 ≤ k
