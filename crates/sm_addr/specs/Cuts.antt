-- A text cut into what stands before and behind.
use Rattle.std.specs.Prelude.{ℕ, ◌-◌, ◌==◌, List, length, take, drop, Option, Some, None, if◌then◌else◌}
use Rattle.std.specs.List.{position_or_len}
use Rattle.std.specs.Str.{bytes_eq}

-- what stands behind that beginning, where the text has it
abbrev pub behind : List ℕ → List ℕ → Option (List ℕ)
behind beginning text = if bytes_eq (take (length beginning) text) beginning then Some (drop (length beginning) text) else None

-- what stands before that end, where the text has it
abbrev pub before : List ℕ → List ℕ → Option (List ℕ)
before end text =
    if bytes_eq (drop (length text - length end) text) end then Some (take (length text - length end) text) else None

-- what stands before a byte where it is first, and from there on; the second is empty where it isn't there
abbrev pub up_to : ℕ → List ℕ → List ℕ
up_to byte text = take (position_or_len (λ b. b == byte) text) text

abbrev pub from : ℕ → List ℕ → List ℕ
from byte text = drop (position_or_len (λ b. b == byte) text) text
