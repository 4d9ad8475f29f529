use Rattle.sm_words.proofs.Reading.{ValuesFrom}
use Rattle.sm_words.proofs.line.first_value.Given as goal

abbrev pub invariant-loop-at : goal.invariant-loop-at
invariant-loop-at l = ValuesFrom l.given l.name l.at
