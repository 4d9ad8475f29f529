use Rattle.sm_words.specs.Line.{read_of}
use Rattle.sm_words.proofs.Reading.{ReadUpTo}
use Rattle.sm_words.proofs.line.read_line.Given as goal

abbrev pub invariant-loop-word : goal.invariant-loop-word
invariant-loop-word l = ReadUpTo l.options l.words (read_of l.line) l.place l.word-index
