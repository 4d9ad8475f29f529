use Rattle.sm_words.proofs.Reading.{FirstFrom}
use Rattle.sm_words.proofs.line.option_in.Given as goal

abbrev pub invariant-loop-name : goal.invariant-loop-name
invariant-loop-name l = FirstFrom l.options l.word l.name-index
