-- What bytes say of the box that they begin.
use Rattle.std.specs.Prelude.{ℕ, ◌+◌, ◌==◌, nat_lt, List, length, take, drop, if◌then◌else◌}
use Rattle.sm_model.specs.Numbers.{number32_at}
use Rattle.sm_model.specs.Boxes.{Box, head_len, box_len}
use Rattle.sm_box.specs.declared.head.Head.{Head}
use Rattle.sm_box.specs.declared.head.Head.TheVariants.{Whole, Short, Bad, OpenEnded}

-- The size field and the type are needed first. Where the field is 0 the box has no end of its own; where it is 1 the
-- 64-bit size is needed too.
unfoldable pub head_of : List ℕ → Head
head_of b =
    if nat_lt (length b) 8 then Short
    else if number32_at 0 b == 0 then OpenEnded
    else if nat_lt (length b) (head_len b) then Short
    else if nat_lt (box_len b) (head_len b) then Bad
    else Whole (take 4 (drop 4 b)) (head_len b) (box_len b)

-- a box whose size has 32 bits
abbrev pub small_box : List ℕ → List ℕ → Box
small_box kind body = record { kind = kind; head = 8; size = 8 + length body; body = body }
