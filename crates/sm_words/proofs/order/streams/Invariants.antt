use Rattle.sm_words.proofs.Naming.{NamedUpTo}
use Rattle.sm_words.proofs.order.streams.Given as goal

abbrev pub invariant-loop-text : goal.invariant-loop-text
invariant-loop-text l = NamedUpTo l.texts l.names.items l.text-index
