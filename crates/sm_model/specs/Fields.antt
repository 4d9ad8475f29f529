-- The fields of tfhd, trun, tfxd and tfrf, by their places (ISO/IEC 14496-12, 8.8.7 and 8.8.8; [MS-SSTR] 2.2.4.4 and
-- 2.2.4.5). Each reader gives some number on every list of bytes; the tests `.._fits` say on which lists it is the field.
use Rattle.std.specs.Prelude.{ℕ, ℤ, zero, suc, ◌+◌, ◌*◌, Bool, not, ◌&&◌, ◌||◌, ◌==◌, nat_le, bit_and, List, [], ◌∷◌, ◌++◌, length, slice_index, Option, Some, None, if◌then◌else◌}
use Rattle.std.specs.Int.{w32, cast_signed}
use Rattle.sm_model.specs.declared.run.Defaults.{Defaults}
use Rattle.sm_model.specs.declared.run.Row.{Row}
use Rattle.sm_model.specs.Numbers.{number32_at, number64_at}

-- the version of a full box; its three flag bytes follow, and no flag reaches the version's byte
unfoldable pub version : List ℕ → ℕ
version b = slice_index b 0

-- whether version and flags, as one number, have a flag
unfoldable pub has : ℕ → ℕ → Bool
has word flag = not (bit_and word flag == 0)

-- the width of a field that a flag brings
unfoldable pub field : ℕ → ℕ → ℕ → ℕ
field word flag width = if has word flag then width else 0

-- a field of 32 bits that a flag brings, at its place; without the flag, what holds instead
unfoldable pub given : ℕ → ℕ → ℕ → List ℕ → ℕ → ℕ
given word flag at b other = if has word flag then number32_at at b else other

-- ---- tfhd: version and flags, track_ID, then by flags base data offset, description index, default duration, default
-- size, default flags

unfoldable pub tfhd_len : ℕ → ℕ
tfhd_len w = 8 + field w 0x1 8 + field w 0x2 4 + field w 0x8 4 + field w 0x10 4 + field w 0x20 4

-- exactly the length that the flags give
unfoldable pub tfhd_fits : List ℕ → Bool
tfhd_fits b = nat_le 8 (length b) && length b == tfhd_len (number32_at 0 b)

-- where the default duration stands
unfoldable pub tfhd_at : ℕ → ℕ
tfhd_at w = 8 + field w 0x1 8 + field w 0x2 4

-- the defaults of the tfhd, else those of the trex
unfoldable pub defaults_of : Defaults → List ℕ → Defaults
defaults_of d b = record {
  duration = given (number32_at 0 b) 0x8 (tfhd_at (number32_at 0 b)) b d.duration;
  size = given (number32_at 0 b) 0x10 (tfhd_at (number32_at 0 b) + field (number32_at 0 b) 0x8 4) b d.size;
  flags = given (number32_at 0 b) 0x20 (tfhd_at (number32_at 0 b) + field (number32_at 0 b) 0x8 4 + field (number32_at 0 b) 0x10 4) b d.flags;
}

-- ---- trun: version and flags, sample count, then by flags data offset, first sample flags, and per sample duration,
-- size, flags, composition offset

unfoldable pub row_len : ℕ → ℕ
row_len w = field w 0x100 4 + field w 0x200 4 + field w 0x400 4 + field w 0x800 4

-- where the first row stands
unfoldable pub rows_at : ℕ → ℕ
rows_at w = 8 + field w 0x1 4 + field w 0x4 4

-- version 0 or 1, and exactly the length that flags and count give
unfoldable pub trun_fits : List ℕ → Bool
trun_fits b =
    nat_le 8 (length b)
    && (nat_le (version b) 1 && length b == rows_at (number32_at 0 b) + number32_at 4 b * row_len (number32_at 0 b))

-- the row at a place: what the row lacks comes from the defaults, and first sample flags win for the first row
unfoldable pub row_at : Defaults → ℕ → ℕ → List ℕ → Bool → Row
row_at d w at b first = record {
  duration = given w 0x100 at b d.duration;
  size = given w 0x200 (at + field w 0x100 4) b d.size;
  flags =
      if first && has w 0x4
      then number32_at (8 + field w 0x1 4) b
      else given w 0x400 (at + field w 0x100 4 + field w 0x200 4) b d.flags;
  offset = given w 0x800 (at + field w 0x100 4 + field w 0x200 4 + field w 0x400 4) b 0;
}

-- the row of an index
unfoldable pub row : Defaults → List ℕ → ℕ → Row
row d b i = row_at d (number32_at 0 b) (rows_at (number32_at 0 b) + i * row_len (number32_at 0 b)) b (i == 0)

-- so many rows from the first on
unfoldable pub rows : Defaults → List ℕ → ℕ → List Row
rows d b zero = []
rows d b (suc n) = rows d b n ++ row d b n ∷ []

-- the data offset: signed, from the first byte of the moof
unfoldable pub data_offset : List ℕ → Option ℤ
data_offset b = if has (number32_at 0 b) 0x1 then Some (cast_signed w32 (number32_at 8 b)) else None

-- ---- tfxd, behind the user type: version and flags, time, duration

-- a time and a duration at a place, of 32 bits each, or of 64
unfoldable pub pair_at : Bool → ℕ → List ℕ → ℕ × ℕ
pair_at wide at b = if wide then (number64_at at b, number64_at (at + 8) b) else (number32_at at b, number32_at (at + 4) b)

-- version 0 with 32 bits each, or version 1 with 64, and nothing else
unfoldable pub tfxd_fits : List ℕ → Bool
tfxd_fits b = (length b == 12 && version b == 0) || (length b == 20 && version b == 1)

unfoldable pub tfxd_pair : List ℕ → ℕ × ℕ
tfxd_pair b = pair_at (version b == 1) 4 b

unfoldable pub tfxd : List ℕ → Option (ℕ × ℕ)
tfxd b = if tfxd_fits b then Some (tfxd_pair b) else None

-- ---- tfrf, behind the user type: version and flags, a count of one byte, so many pairs as in tfxd

unfoldable pub pair_len : List ℕ → ℕ
pair_len b = if version b == 1 then 16 else 8

unfoldable pub tfrf_fits : List ℕ → Bool
tfrf_fits b = nat_le 5 (length b) && (nat_le (version b) 1 && length b == 5 + slice_index b 4 * pair_len b)

-- the pair of an index
unfoldable pub tfrf_pair : List ℕ → ℕ → ℕ × ℕ
tfrf_pair b i = pair_at (version b == 1) (5 + i * pair_len b) b

-- so many pairs from the first on
unfoldable pub pairs : List ℕ → ℕ → List (ℕ × ℕ)
pairs b zero = []
pairs b (suc n) = pairs b n ++ tfrf_pair b n ∷ []
