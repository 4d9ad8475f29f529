use Rattle.std.proofs.Common.{◌≡◌, ℕ, List, ◌++◌, length}
use Rattle.sm_world.specs.Bringing.{Brings}
use Rattle.sm_world.proofs.asking.script_of.Given as goal

abbrev pub invariant-loop-rest : goal.invariant-loop-rest
invariant-loop-rest l = (bytes : List ℕ) × (bytes ++ l.rest ≡ l.request) × Brings l.conn bytes l.events.items

abbrev pub decreases-loop-rest : goal.decreases-loop-rest
decreases-loop-rest l = length l.rest
