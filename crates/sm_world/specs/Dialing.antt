-- What contracts see of a dial, beside its site.
use Rattle.std.specs.Prelude.{ℕ, ◌+◌, ◌-◌, List, length, Option}
use Rattle.sm_archive.specs.declared.limits.Limits.{Limits}
use Rattle.sm_fetch.specs.declared.dial.Exchange.{Exchange}
use Rattle.sm_serve.specs.declared.state.State.{State}

-- What the loop keeps, where the store is open; its limits; the numbers of the exchanges that are lost and cut; how many were told before
-- they were counted from 1; those that are told; how often one was lost; and how often the site crashed.
pub record Dialing : Type 0 where
  pub state : Option State
  pub limits : Limits
  pub lost : List ℕ
  pub cut : List ℕ
  pub since : ℕ
  pub made : List Exchange
  pub faults : ℕ
  pub crashes : ℕ

-- the number of the next exchange
abbrev pub next_number : Dialing → ℕ
next_number d = length d.made - d.since + 1
