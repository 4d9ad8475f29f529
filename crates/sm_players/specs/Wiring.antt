-- Where the wires of players are wanted.
use Rattle.std.specs.Prelude.{ℕ, List, Option}
use Rattle.sm_site.specs.Faults.{one_more}

-- the port of the loop, how many players there are, and the address to listen at
pub record Wires : Type 0 where
  pub port : ℕ
  pub players : ℕ
  pub bind : Option (List ℕ)

-- where wires were asked for last, if there are any, and how often they were asked for, up to the last value of 64 bits
pub record Wired : Type 0 where
  pub wires : Option Wires
  pub asks : ℕ

-- wires were asked for once more, and are there, or after a refusal nowhere
abbrev pub rewired : Wired → Option Wires → Wired
rewired was wires = record { wires = wires; asks = one_more was.asks }
