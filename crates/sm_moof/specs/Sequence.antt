-- The sequence number of a moof (ISO/IEC 14496-12, 8.8.5).
use Rattle.std.specs.Prelude.{ℕ, ◌&&◌, ◌==◌, nat_eq, List, length, codes, Option, Some, None, if◌then◌else◌}
use Rattle.std.specs.Cmp.Lexicographic.{pointwise}
use Rattle.sm_model.specs.Numbers.{number32_at}
use Rattle.sm_model.specs.Boxes.{box_of, starts_whole}

-- an mfhd has 8 bytes of body, and the number in the last four
abbrev pub number_in : List ℕ → List ℕ → Option ℕ
number_in kind body = if pointwise nat_eq kind (codes "mfhd") && (length body == 8) then Some (number32_at 4 body) else None

abbrev pub sequence_at : List ℕ → Option ℕ
sequence_at b = if starts_whole b then number_in (box_of b).kind (box_of b).body else None

-- the number of its first child, where that is an mfhd
abbrev pub sequence_in : List ℕ → Option ℕ
sequence_in moof = sequence_at (box_of moof).body
