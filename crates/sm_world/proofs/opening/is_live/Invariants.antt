use Rattle.std.proofs.Common.{◌≡◌, ℕ, ◌<◌, get_or}
use Rattle.sm_serve.specs.Serving.{numbers_of}
use Rattle.sm_world.proofs.opening.is_live.Given as goal

abbrev pub invariant-loop-live : goal.invariant-loop-live
invariant-loop-live l = (k : ℕ) → k < l.live-index → get_or (numbers_of l.state.lives.items) k 0 ≡ l.conn → ⊥
