-- What the laws of a dial in memory stand on.
use Rattle.std.specs.Prelude.{◌≤◌, ℕ}
use Rattle.std.proofs.Common.{arith}

pub no_fewer : (n : ℕ) → n ≤ n
no_fewer n = omega arith

pub no_fewer_then : (n m k : ℕ) → n ≤ m → m ≤ k → n ≤ k
no_fewer_then n m k first then = omega (arith, first, then)
