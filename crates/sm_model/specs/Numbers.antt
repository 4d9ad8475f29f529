-- Big-endian numbers of 32 and 64 bits, as ISO/IEC 14496-12 writes every field.
use Rattle.std.specs.Prelude.{ℕ, List, take, drop}
use Rattle.std.specs.Int.{w32, w64, to_be_bytes, from_be_bytes}

-- the four bytes of a number
unfoldable pub number32 : ℕ → List ℕ
number32 n = to_be_bytes w32 n

-- the eight bytes of a number
unfoldable pub number64 : ℕ → List ℕ
number64 n = to_be_bytes w64 n

-- the number that stands at a place
unfoldable pub number32_at : ℕ → List ℕ → ℕ
number32_at i b = from_be_bytes w32 (take 4 (drop i b))

unfoldable pub number64_at : ℕ → List ℕ → ℕ
number64_at i b = from_be_bytes w64 (take 8 (drop i b))
