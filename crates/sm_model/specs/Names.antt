-- Names of streams and tracks.
use Rattle.std.specs.Prelude.{ℕ, Bool, ◌&&◌, ◌||◌, ◌==◌, nat_le, List, length, min, take_while}
use Rattle.std.specs.Str.Lossy.{utf8_valid_len}

abbrev pub is_within : ℕ → ℕ → ℕ → Bool
is_within low high c = nat_le low c && nat_le c high

-- an ASCII digit or letter, `_`, `-`, `.`, a space, or a byte of a character beyond ASCII
abbrev pub is_name_byte : ℕ → Bool
is_name_byte c =
    is_within 48 57 c
    || (is_within 97 122 c || (is_within 65 90 c || (c == 95 || (c == 45 || (c == 46 || (c == 32 || nat_le 128 c))))))

-- the place of the first byte that is wrong: one that a name may not hold, or one where the text stops being UTF-8;
-- the length where every byte is right
unfoldable pub first_wrong : List ℕ → ℕ
first_wrong b = min (length (take_while is_name_byte b)) (utf8_valid_len b)

-- 1 to 64 bytes, and every one is right
unfoldable pub is_name : List ℕ → Bool
is_name b = nat_le 1 (length b) && (nat_le (length b) 64 && first_wrong b == length b)
