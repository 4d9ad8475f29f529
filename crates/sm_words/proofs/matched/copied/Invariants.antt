use Rattle.std.proofs.Common.{map, string_bytes, [], Bor}
use Rattle.sm_words.specs.Words.{Text}
use Rattle.sm_words.proofs.Adding.{AddedUpTo}
use Rattle.sm_words.proofs.matched.copied.Given as goal

abbrev pub invariant-loop-text : goal.invariant-loop-text
invariant-loop-text l = AddedUpTo (λ (t : Bor Text). t.now) l.texts [] (map string_bytes l.list.items) l.text-index
