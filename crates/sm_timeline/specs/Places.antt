-- Where a start stands among entries that are sorted.
use Rattle.std.specs.Prelude.{ℕ, ◌+◌, nat_lt, List, [], ◌∷◌, Result, Ok, Err, is_some, if◌then◌else◌}
use Rattle.sm_log.specs.Times.{entry_at}

-- how many entries at the front start before that
abbrev pub place_in : ℕ → List (ℕ × ℕ) → ℕ
place_in start [] = 0
place_in start (x ∷ xs) = if nat_lt x.0 start then place_in start xs + 1 else 0

-- Ok where an entry stands there, else Err with the place where it belongs
abbrev pub found_in : ℕ → List (ℕ × ℕ) → Result ℕ ℕ
found_in start xs = if is_some (entry_at start xs) then Ok (place_in start xs) else Err (place_in start xs)
