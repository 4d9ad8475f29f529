-- What contracts see of the ends in memory. `calls` is the number of the last call, from 1; it stands still at 2^64 - 1.
use Rattle.std.specs.Prelude.{◌+◌, ◌-◌, ◌^◌, ℕ, Bool, List, min, replicate}

pub record SourceState : Type 0 where
  pub left : List ℕ
  pub failing : List ℕ
  pub calls : ℕ
  pub faults : ℕ

pub record SinkState : Type 0 where
  pub held : List ℕ
  pub failing : List ℕ
  pub calls : ℕ
  pub faults : ℕ
  pub starved : Bool

-- one more, up to the last value
abbrev pub one_more : ℕ → ℕ
one_more n = min (n + 1) (2 ^ 64 - 1)

-- one byte so many times
unfoldable pub copies_of : ℕ → ℕ → List ℕ
copies_of n byte = replicate n byte
