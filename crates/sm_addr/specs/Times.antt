-- Times in a target.
use Rattle.std.specs.Prelude.{ℕ, Bool, ◌^◌, ◌&&◌, List, length, nat_le, nat_lt, Option, Some, None, if◌then◌else◌}
use Rattle.std.specs.List.{list_all}
use Rattle.sm_model.specs.Digits.{is_digit, decimal_from}

-- 1 to 20 digits that write a number below 2^64
unfoldable pub is_time : List ℕ → Bool
is_time b = nat_lt 0 (length b) && (nat_le (length b) 20 && (list_all is_digit b && nat_lt (decimal_from 0 b) (2 ^ 64)))

-- the number of 64 bits that a text is, if it is one
unfoldable pub time_of : List ℕ → Option ℕ
time_of b = if is_time b then Some (decimal_from 0 b) else None
