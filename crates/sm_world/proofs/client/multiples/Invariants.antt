use Rattle.sm_world.proofs.Numbers.{Multiples}
use Rattle.sm_world.proofs.client.multiples.Given as goal

abbrev pub invariant-loop-number : goal.invariant-loop-number
invariant-loop-number l = Multiples l.of l.number l.numbers.items
