use Rattle.std.proofs.Common.{◌≡◌, ℕ, ◌<◌, get_or}
use Rattle.sm_players.specs.Open.{numbers_of}
use Rattle.sm_players.proofs.live.find.Given as goal

abbrev pub invariant-loop-i : goal.invariant-loop-i
invariant-loop-i l = (k : ℕ) → k < l.i → get_or (numbers_of l.lives) k 0 ≡ l.number → ⊥
