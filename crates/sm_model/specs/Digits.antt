-- Numbers in decimal digits.
use Rattle.std.specs.Prelude.{ℕ, ◌+◌, ◌*◌, ◌-◌, Bool, ◌&&◌, List, [], ◌∷◌, length, nat_le, nat_lt, Option, Some, None, if◌then◌else◌}
use Rattle.std.specs.List.{list_all}
use Rattle.sm_model.specs.Names.{is_within}

abbrev pub is_digit : ℕ → Bool
is_digit c = is_within 48 57 c

-- the number that digits write behind those of n
abbrev pub decimal_from : ℕ → List ℕ → ℕ
decimal_from n [] = n
decimal_from n (d ∷ ds) = decimal_from (10 * n + (d - 48)) ds

-- 1 to 10 digits that write a number below 2^32
unfoldable pub is_number : List ℕ → Bool
is_number b = nat_lt 0 (length b) && (nat_le (length b) 10 && (list_all is_digit b && nat_lt (decimal_from 0 b) 4294967296))

-- the number of 32 bits that a text is, if it is one
unfoldable pub number_of : List ℕ → Option ℕ
number_of b = if is_number b then Some (decimal_from 0 b) else None

-- 1 to 20 digits that write a number below 2^64
unfoldable pub is_wide_number : List ℕ → Bool
is_wide_number b = nat_lt 0 (length b) && (nat_le (length b) 20 && (list_all is_digit b && nat_lt (decimal_from 0 b) 18446744073709551616))

-- the number of 64 bits that a text is, if it is one
unfoldable pub wide_number_of : List ℕ → Option ℕ
wide_number_of b = if is_wide_number b then Some (decimal_from 0 b) else None
